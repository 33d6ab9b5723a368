-- What a text leaves in a sink that failed in its midst, and how far a source is read.
use Rattle.std.specs.Prelude.{ℕ, ◌≤◌, List, length, Option, take}
use Rattle.std.specs.Io.KnownBytes.{Appends, Consumes}

-- known octets grow by some first octets of the text
abbrev pub AppendsPrefix : Option (List ℕ) → Option (List ℕ) → List ℕ → Type 0
AppendsPrefix old new text = (n : ℕ) × Appends old new (take n text)

-- known octets lose some first ones, so many at most
abbrev pub TakesUpTo : ℕ → Option (List ℕ) → Option (List ℕ) → Type 0
TakesUpTo most old new = (octets : List ℕ) × Consumes old new octets × (length octets ≤ most)
