-- The log of a leaf book: its key, and then leaf by leaf the SHA-256 of the text that the leaf was given to.
use Rattle.std.specs.Prelude.{◌≡◌, ℕ, ◌≤◌, suc, List, [], ◌∷◌, ◌++◌, length, drop, Some, slice_get}
use Rattle.std.specs.List.{AllByRecursion}
use Rattle.std.specs.Int.{w32, to_be_bytes}
use Rattle.sha2.specs.Sha256.{sha256}
use Rattle.lms_tree.specs.declared.key.Set.{Set}
use Rattle.lms_tree.specs.Keys.{Secret}
use Rattle.hss_sig.specs.OneLevel.{hss_key}

-- the seven octets CMPLEAF
abbrev pub magic : List ℕ
magic = 67 ∷ 77 ∷ 80 ∷ 76 ∷ 69 ∷ 65 ∷ 70 ∷ []

-- SHA-256 values, that of leaf 0 first
abbrev pub Digests : Type 0
Digests = List (List ℕ)

-- octet 1, and a key
unfoldable pub key_payload : List ℕ → List ℕ
key_payload key = 1 ∷ key

-- octet 2, a leaf in four octets with the highest first, and the SHA-256 of the text that it was given to
unfoldable pub leaf_payload : ℕ → List ℕ → List ℕ
leaf_payload leaf digest = 2 ∷ (to_be_bytes w32 leaf ++ digest)

-- the payloads of the leaves from this one on
abbrev pub leaves_from : ℕ → Digests → List (List ℕ)
leaves_from leaf [] = []
leaves_from leaf (digest ∷ more) = leaf_payload leaf digest ∷ leaves_from (suc leaf) more

-- the payloads of a book
abbrev pub payloads_of : List ℕ → Digests → List (List ℕ)
payloads_of key given = key_payload key ∷ leaves_from 0 given

-- each has the 32 octets of a SHA-256 value
abbrev pub AreDigests : Digests → Type 0
AreDigests given = AllByRecursion (λ (d : List ℕ). length d ≡ 32) given

-- ---- the key

-- the private key of one tree
abbrev pub secret : List ℕ → List ℕ → Set → Secret
secret seed id set = record { seed = seed; id = id; tree = set.tree; ots = set.ots }

-- the LMS public key of one tree, without the number of levels (RFC 8554, 5.3 and 6.1)
abbrev pub lms_key : Secret → List ℕ
lms_key s = drop 4 (hss_key s)

-- the sets that a book may have: trees of 2^5, 2^10 or 2^15 leaves, and each set of one-time keys (RFC 8554, 4.1 and 5.1)
abbrev pub IsOwnSet : Secret → Type 0
IsOwnSet s = (5 ≤ s.tree) × (s.tree ≤ 7) × (1 ≤ s.ots) × (s.ots ≤ 4)

-- ---- what is given

-- the leaf was given to this text
abbrev pub HasGiven : Digests → ℕ → List ℕ → Type 0
HasGiven given leaf text = slice_get given leaf ≡ Some (sha256 text)
