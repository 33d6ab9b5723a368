-- When a signature is valid (RFC 8554, 5.4.2, algorithms 6 and 6a).
use Rattle.std.specs.Prelude.{ℕ, ◌≡◌, ◌+◌, ◌*◌, ◌^◌, ◌<◌, List, Some, length, take, drop, MatchOption}
use Rattle.std.specs.Int.{w32, from_be_bytes}
use Rattle.lms_params.specs.Parameters.{OtsRow, ots_row, tree_height}
use Rattle.lm_ots.specs.Signatures.{candidate_of}
use Rattle.lms_tree.specs.Nodes.{leaf_hash, climb}
use Rattle.lms_tree.specs.Keys.{Secret, public_key, tree_signature}

-- the number in the four octets at a place
abbrev pub u32_at : List ℕ → ℕ → ℕ
u32_at octets place = from_be_bytes w32 (take 4 (drop place octets))

-- Tc, the root that a signature leads to, under the identifier id (RFC 8554, 5.4.2, algorithm 6a, step 4)
unfoldable pub root_of : ℕ → OtsRow → List ℕ → List ℕ → List ℕ → List ℕ
root_of h row id text sig =
    let q = u32_at sig 0 in
    let key = candidate_of row id q text (take (36 + 32 * row.p) (drop 4 sig)) in
    climb id h (2 ^ h + q) (leaf_hash id (2 ^ h + q) key) (drop (44 + 32 * row.p) sig)

-- the signature has the length, the typecodes and a leaf number of the key's sets (RFC 8554, 5.4.2, algorithm 6a, step 2)
pub record HasForm (h : ℕ) (row : OtsRow) (key sig : List ℕ) : Type 0 where
  pub size : length sig ≡ 44 + 32 * row.p + 32 * h
  pub ots_code : u32_at sig 4 ≡ u32_at key 4
  pub tree_code : u32_at sig (40 + 32 * row.p) ≡ u32_at key 0
  pub leaf : u32_at sig 0 < 2 ^ h

-- the signature has its form and leads to the key's root, with the key's sets known
abbrev pub LmsOkIn : ℕ → OtsRow → List ℕ → List ℕ → List ℕ → Type 0
LmsOkIn h row key text sig = HasForm h row key sig × (root_of h row (take 16 (drop 8 key)) text sig ≡ drop 24 key)

-- .. with the height known
abbrev pub LmsOkFor : ℕ → List ℕ → List ℕ → List ℕ → Type 0
LmsOkFor h key text sig = MatchOption (ots_row (u32_at key 4)) ⊥ (λ row. LmsOkIn h row key text sig)

-- the signature of the text is valid under the public key of 56 octets (RFC 8554, 5.4.2, algorithm 6)
abbrev pub LmsOk : List ℕ → List ℕ → List ℕ → Type 0
LmsOk key text sig = MatchOption (tree_height (u32_at key 0)) ⊥ (λ h. LmsOkFor h key text sig)

-- each signature of a key is valid under its public key, for each pair of sets and each leaf
abbrev pub SignaturesVerify : Type 0
SignaturesVerify = (h : ℕ) (row : OtsRow) (secret : Secret) (q : ℕ) (text : List ℕ)
    → tree_height secret.tree ≡ Some h → ots_row secret.ots ≡ Some row → length secret.id ≡ 16
    → secret.tree < 2 ^ 32 → secret.ots < 2 ^ 32 → q < 2 ^ 32 → q < 2 ^ h
    → LmsOk (public_key h row secret) text (tree_signature h row secret q text)
