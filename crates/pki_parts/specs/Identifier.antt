-- certReqId (RFC 9810, 5.3.4), which is written as one octet.
use Rattle.std.specs.Prelude.{ℕ, List, [], ◌∷◌}
use Rattle.std.specs.Int.{w8, cast_unsigned}
use lib.IntN.{ℤ}

-- the content of the INTEGER of a number from -128 to 127 (X.690, 8.3)
abbrev pub id_octets : ℤ → List ℕ
id_octets id = cast_unsigned w8 id ∷ []
