-- Four computations side by side: each word is a vector, with a lane for each.
use Rattle.std.specs.Prelude.{ℕ, List, map, slice_index}

-- the words of computation i
abbrev pub lane : ℕ → List (List ℕ) → List ℕ
lane i vectors = map (λ v. slice_index v i) vectors
