-- Object identifiers in octets (X.690, 8.19).
use Rattle.std.specs.Prelude.{ℕ, ◌+◌, ◌*◌, ◌/◌, ◌%◌, ◌^◌, ◌++◌, nat_lt, if◌then◌else◌, List, [], ◌∷◌}

-- A part of an object identifier below 2 ^ 21: seven bits an octet, the highest first, and 128 added to all but the last
-- (X.690, 8.19.2).
abbrev pub arc_octets : ℕ → List ℕ
arc_octets n =
    if nat_lt n 128 then n ∷ []
    else (if nat_lt n (2 ^ 14) then (128 + n / 128) ∷ (n % 128) ∷ []
    else (128 + n / 2 ^ 14) ∷ (128 + n / 128 % 128) ∷ (n % 128) ∷ [])

abbrev pub arcs_octets : List ℕ → List ℕ
arcs_octets [] = []
arcs_octets (n ∷ arcs) = arc_octets n ++ arcs_octets arcs

-- The content of an object identifier: the first two parts stand in one number (X.690, 8.19.4).
abbrev pub dotted : List ℕ → List ℕ
dotted [] = []
dotted (a ∷ []) = []
dotted (a ∷ b ∷ arcs) = arcs_octets ((a * 40 + b) ∷ arcs)
