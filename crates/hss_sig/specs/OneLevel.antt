-- Keys of one level (RFC 8554, 6.1 and 6.2).
use Rattle.std.specs.Prelude.{ℕ, ◌≡◌, ◌+◌, ◌*◌, ◌^◌, ◌<◌, List, [], ◌++◌, length, Option, None, Some, IsSome}
use Rattle.std.specs.Int.{w32, to_be_bytes}
use Rattle.lms_params.specs.Parameters.{OtsRow, ots_row, tree_height}
use Rattle.lms_tree.specs.Keys.{Secret, public_key, tree_signature}
use Rattle.hss_sig.specs.Hss.{HssOk}

-- the octets that a height and a row give, none where one is missing
abbrev pub octets_of : Option ℕ → Option OtsRow → (ℕ → OtsRow → List ℕ) → List ℕ
octets_of None row f = []
octets_of (Some h) None f = []
octets_of (Some h) (Some row) f = f h row

-- u32str(1) || the LMS public key (RFC 8554, 6.1)
unfoldable pub hss_key : Secret → List ℕ
hss_key s = octets_of (tree_height s.tree) (ots_row s.ots) (λ h row. to_be_bytes w32 1 ++ public_key h row s)

-- u32str(0) || the LMS signature by leaf q (RFC 8554, 6.2)
unfoldable pub hss_signature : Secret → ℕ → List ℕ → List ℕ
hss_signature s q text = octets_of (tree_height s.tree) (ots_row s.ots) (λ h row. to_be_bytes w32 0 ++ tree_signature h row s q text)

-- 2^h, or 0 where there is no height
abbrev pub power_of : Option ℕ → ℕ
power_of None = 0
power_of (Some h) = 2 ^ h

-- the number of leaves under a tree's typecode (RFC 8554, 5.2)
abbrev pub leaf_count : ℕ → ℕ
leaf_count code = power_of (tree_height code)

-- the identifier has 16 octets and the typecodes have 4 (RFC 8554, 5.3)
pub record IsSized (s : Secret) : Type 0 where
  pub id_size : length s.id ≡ 16
  pub small_tree : s.tree < 2 ^ 32
  pub small_ots : s.ots < 2 ^ 32

-- each signature of a key of one level is valid under its public key: for each pair of sets, each leaf of the tree and each text
abbrev pub OneLevelVerifies : Type 0
OneLevelVerifies = (secret : Secret) (leaf : ℕ) (text : List ℕ) → IsSized secret → IsSome (ots_row secret.ots) → leaf < leaf_count secret.tree
    → HssOk (hss_key secret) text (hss_signature secret leaf text)

-- each signature of a key of one level has 48 octets, 32 for each chain of its one-time key and 32 for each level of its tree
-- (RFC 8554, 4.5, 5.4 and 6.2)
abbrev pub SignaturesAreSized : Type 0
SignaturesAreSized = (secret : Secret) (leaf : ℕ) (text : List ℕ) (h : ℕ) (row : OtsRow) → tree_height secret.tree ≡ Some h → ots_row secret.ots ≡ Some row
    → length (hss_signature secret leaf text) ≡ 48 + 32 * row.p + 32 * h
