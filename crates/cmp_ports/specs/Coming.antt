-- What an object in whose place the world stands gives call by call: readings of a clock, draws of random octets,
-- orders of the operator.
use Rattle.std.specs.Prelude.{◌≡◌, ℕ, ◌+◌, ◌<◌, length, zero, suc, min, List, [], ◌∷◌, drop, Option, Some, None, Result, Ok, Err, if◌then◌else◌}
use Rattle.std.specs.List.{slice_get}
use Rattle.cmp_ports.specs.Schedule.{counted, is_among}

-- The call gave the first of the values to come, and the others are still to come. Values are numbered from 0.
abbrev pub Gives : {X : Type 0} → Option (ℕ → X) → Option (ℕ → X) → X → Type 0
Gives None new x = Unit {0}
Gives (Some old) None x = ⊥
Gives (Some old) (Some new) x = (old zero ≡ x) × ((n : ℕ) → new n ≡ old (suc n))

-- Some calls gave these values one after the other, and the others are still to come.
abbrev pub GivesAll : {X : Type 0} → Option (ℕ → X) → Option (ℕ → X) → List X → Type 0
GivesAll None new xs = Unit {0}
GivesAll (Some old) None xs = ⊥
GivesAll (Some old) (Some new) xs = ((n : ℕ) → n < length xs → slice_get xs n ≡ Some (old n)) × ((n : ℕ) → new n ≡ old (length xs + n))

-- The call took the first of the things left, or found none left, or failed and took none.
abbrev pub Takes : {X E : Type 0} → Option (List X) → Option (List X) → Result (Option X) E → Type 0
Takes None new result = Unit {0}
Takes (Some old) None result = ⊥
Takes (Some old) (Some new) (Ok (Some x)) = old ≡ x ∷ new
Takes (Some old) (Some new) (Ok None) = (old ≡ []) × (new ≡ [])
Takes (Some old) (Some new) (Err e) = new ≡ old

-- the last second that a clock reads: in the year 9892
abbrev pub latest : ℕ
latest = 250000000000

-- The reading of this number from a list of times: the last one again where the list is used up.
abbrev pub reading : ℕ → List ℕ → ℕ → ℕ
reading last [] n = last
reading last (time ∷ times) zero = min time latest
reading last (time ∷ times) (suc n) = reading (min time latest) times n

-- what a draw gave: the octets, or nothing where it failed
abbrev pub drawn : {E : Type 0} → Result (Unit {0}) E → List ℕ → Option (List ℕ)
drawn (Ok done) octets = Some octets
drawn (Err e) octets = None

-- The draw of this number from a list, after so many calls: a call whose number is listed fails, and so does one that
-- finds the list used up.
abbrev pub draw_of : List ℕ → ℕ → List (List ℕ) → ℕ → Option (List ℕ)
draw_of fails calls left zero = if is_among fails (counted calls) then None else slice_get left 0
draw_of fails calls left (suc n) = draw_of fails (counted calls) (if is_among fails (counted calls) then left else drop 1 left) n
