-- The history of a counter.
use Rattle.std.specs.Prelude.{ℕ, List, replicate}

-- an entry, 0, for each turn
abbrev pub entries : ℕ → List ℕ
entries turns = replicate turns 0
