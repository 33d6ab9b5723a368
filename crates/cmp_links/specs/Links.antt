-- Streams that a door hands out and takes back.
use Rattle.std.specs.Prelude.{◌≡◌, ℕ, List, [], ◌∷◌, ◌++◌, Option, Some, None}

-- no octets, where they are told
abbrev pub HoldsNone : Option (List ℕ) → Type 0
HoldsNone None = Unit {0}
HoldsNone (Some octets) = octets ≡ []

-- a stream with no faults, that has given nothing, and to which nothing was written
pub record IsUntouched (faults : ℕ) (gave written : Option (List ℕ)) : Type 0 where
  pub no_fault : faults ≡ 0
  pub unread : HoldsNone gave
  pub unwritten : HoldsNone written

-- a list that is told stays
abbrev pub Stays : {X : Type 0} → Option (List X) → Option (List X) → Type 0
Stays None new = Unit {0}
Stays (Some old) None = ⊥
Stays (Some old) (Some new) = new ≡ old

-- a list that is told has one more at its end
abbrev pub Adds : {X : Type 0} → Option (List X) → Option (List X) → X → Type 0
Adds None new x = Unit {0}
Adds (Some old) None x = ⊥
Adds (Some old) (Some new) x = new ≡ old ++ x ∷ []
