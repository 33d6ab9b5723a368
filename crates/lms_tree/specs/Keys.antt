-- The keys and signatures of LMS (RFC 8554, 5.2, 5.3 and 5.4.1).
use Rattle.std.specs.Prelude.{ℕ, ◌≡◌, ◌+◌, ◌*◌, ◌^◌, List, ◌++◌, MatchOption}
use Rattle.std.specs.Int.{w32, to_be_bytes}
use Rattle.lms_params.specs.Parameters.{OtsRow, ots_row, tree_height}
use Rattle.lm_ots.specs.Chains.{ots_key}
use Rattle.lm_ots.specs.Signatures.{ots_signature}
use Rattle.lms_tree.specs.Nodes.{AreNodes, node, path}

-- a private key: SEED, I, the typecode of the tree and that of its one-time keys (RFC 8554, 5.2 and appendix A)
pub record Secret : Type 0 where
  pub seed : List ℕ
  pub id : List ℕ
  pub tree : ℕ
  pub ots : ℕ

-- the public hashes of a key's one-time keys
abbrev pub keys_of : OtsRow → Secret → ℕ → List ℕ
keys_of row secret = ots_key row secret.seed secret.id

-- u32str(type) || u32str(otstype) || I || T[1] (RFC 8554, 5.3)
unfoldable pub public_key : ℕ → OtsRow → Secret → List ℕ
public_key h row secret =
    to_be_bytes w32 secret.tree ++ to_be_bytes w32 secret.ots ++ secret.id ++ node (keys_of row secret) secret.id h 1

-- u32str(q) || lmots_signature || u32str(type) || path[0] || .. || path[h - 1] (RFC 8554, 5.4)
unfoldable pub tree_signature : ℕ → OtsRow → Secret → ℕ → List ℕ → List ℕ
tree_signature h row secret q text =
    to_be_bytes w32 q ++ ots_signature row secret.ots secret.seed secret.id q text ++ to_be_bytes w32 secret.tree
    ++ path (keys_of row secret) secret.id h h (2 ^ h + q)

-- a fact on the height and the row of a key whose codes are in the tables
abbrev pub ForKnown : Secret → (ℕ → OtsRow → Type 0) → Type 0
ForKnown secret P = MatchOption (tree_height secret.tree) ⊥ (λ h. MatchOption (ots_row secret.ots) ⊥ (λ row. P h row))

-- the list holds all nodes of the key's tree
abbrev pub IsGrown : Secret → List (List ℕ) → Type 0
IsGrown secret nodes = ForKnown secret (λ h row. AreNodes (keys_of row secret) secret.id h 1 (2 * 2 ^ h) nodes)

-- the octets are the public key of a private key
abbrev pub IsPublicKey : Secret → List ℕ → Type 0
IsPublicKey secret octets = ForKnown secret (λ h row. octets ≡ public_key h row secret)

-- the octets are the signature of a text by leaf q
abbrev pub IsSignature : Secret → ℕ → List ℕ → List ℕ → Type 0
IsSignature secret q text octets = ForKnown secret (λ h row. octets ≡ tree_signature h row secret q text)
