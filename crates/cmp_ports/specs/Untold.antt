-- An object that doesn't tell what it holds. No clause names these words, so a reader can skip them.
use Rattle.std.specs.Prelude.{◌≡◌, ℕ, Option, Some, None, List}

-- no content is told
abbrev pub untold : Option (List ℕ)
untold = None

-- so what follows from one is idle
pub none_told : (f : List ℕ) (P : Type 0) → untold ≡ Some f → P
none_told f P told = absurd (cc told)
