-- The parameter sets of LM-OTS (RFC 8554, 4.1, table 1) and LMS (RFC 8554, 5.1, table 2) with SHA-256
-- and n = m = 32. A set is named by its typecode.
use Rattle.std.specs.Prelude.{ℕ, ◌+◌, ◌*◌, Bool, Option, Some, None, ◌==◌, ◌||◌, ◌&&◌, if◌then◌else◌}

-- a row of table 1: the bits of a digit, the number of chains, and the checksum's shift to the left
pub record OtsRow : Type 0 where
  pub w : ℕ
  pub p : ℕ
  pub ls : ℕ

-- the row of an LM-OTS typecode (RFC 8554, 4.1, table 1)
abbrev pub ots_row : ℕ → Option OtsRow
ots_row code =
    if code == 1 then Some (record { w = 1; p = 265; ls = 7 })
    else (if code == 2 then Some (record { w = 2; p = 133; ls = 6 })
    else (if code == 3 then Some (record { w = 4; p = 67; ls = 4 })
    else (if code == 4 then Some (record { w = 8; p = 34; ls = 0 })
    else None)))

-- the height of the tree of an LMS typecode (RFC 8554, 5.1, table 2)
abbrev pub tree_height : ℕ → Option ℕ
tree_height code =
    if code == 5 then Some 5
    else (if code == 6 then Some 10
    else (if code == 7 then Some 15
    else (if code == 8 then Some 20
    else (if code == 9 then Some 25
    else None))))

-- the octets of an LM-OTS signature: its typecode, C, and one value a chain (RFC 8554, 4.5)
abbrev pub ots_signature_size : OtsRow → ℕ
ots_signature_size row = 36 + 32 * row.p

-- w, p and ls stand in one row of table 1. A test, so that a ghost field may hold it
abbrev pub is_ots_row : ℕ → ℕ → ℕ → Bool
is_ots_row w p ls = (w == 1 && p == 265 && ls == 7) || (w == 2 && p == 133 && ls == 6)
    || (w == 4 && p == 67 && ls == 4) || (w == 8 && p == 34 && ls == 0)

-- w is the width of a digit in some row
abbrev pub is_width : ℕ → Bool
is_width w = w == 1 || w == 2 || w == 4 || w == 8

-- w and ls stand in one row
abbrev pub is_width_and_shift : ℕ → ℕ → Bool
is_width_and_shift w ls = (w == 1 && ls == 7) || (w == 2 && ls == 6) || (w == 4 && ls == 4) || (w == 8 && ls == 0)

-- h is the height of some row of table 2
abbrev pub is_height : ℕ → Bool
is_height h = h == 5 || h == 10 || h == 15 || h == 20 || h == 25
