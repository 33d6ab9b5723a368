-- Why a length isn't taken.
use Rattle.std.specs.Prelude.{ℕ, List, [], ◌∷◌, not, nat_lt}
use Rattle.http_heads.specs.Heads.{Row, row, has, is_lone_number, length_of}

-- the rows of the lengths that are told: none, more than one or no number, too large
abbrev pub length_rows : List (List ℕ) → List Row
length_rows vs = row 411 (not (has vs)) ∷ row 400 (not (is_lone_number vs)) ∷ row 413 (nat_lt 131072 (length_of vs)) ∷ []
