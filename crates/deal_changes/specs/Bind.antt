-- Reading step by step.
use Rattle.std.specs.Prelude.{ℕ, List, Option, Some, None}

-- a part, and the octets after it
abbrev pub Read : Type 0 → Type 0
Read X = Option (X × List ℕ)

infixl 10 ◌>>=◌
abbrev pub ◌>>=◌ : {A B : Type 0} → Option A → (A → Option B) → Option B
None >>= f = None
(Some x) >>= f = f x
