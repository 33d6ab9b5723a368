-- What the octets of an HSS/LMS key say (RFC 8554, 5.3 and 6.1): the number of levels, the type of the first tree and of its
-- one-time signatures, then the tree's identifier and root.
use Rattle.std.specs.Prelude.{ℕ, ◌^◌, Bool, false, ◌&&◌, ◌==◌, List, [], ◌∷◌, length, take, drop, Option, Some, None, if◌then◌else◌}
use Rattle.std.specs.Int.{w32, from_be_bytes}
use Rattle.std.specs.Str.{bytes_eq}
use Rattle.sha2.specs.Sha256.{sha256}
use Rattle.deal_changes.specs.Spki.{PublicKey, public_key}

-- the number of levels
unfoldable pub levels_of : List ℕ → ℕ
levels_of key = from_be_bytes w32 (take 4 key)

-- the type code of the first tree
unfoldable pub tree_of : List ℕ → ℕ
tree_of key = from_be_bytes w32 (take 4 (drop 4 key))

-- the type code of its one-time signatures
unfoldable pub ots_of : List ℕ → ℕ
ots_of key = from_be_bytes w32 (take 4 (drop 8 key))

-- the leaves of a tree of this type (RFC 8554, 5.1, table 2)
abbrev pub leaves_by_code : ℕ → ℕ
leaves_by_code code = if code == 5 then 2 ^ 5
    else (if code == 6 then 2 ^ 10
    else (if code == 7 then 2 ^ 15
    else (if code == 8 then 2 ^ 20
    else (if code == 9 then 2 ^ 25 else 0))))

-- the leaves of the first tree of a key
unfoldable pub leaves_of : List ℕ → ℕ
leaves_of key = leaves_by_code (tree_of key)

-- the identifier of a key: the first 20 octets of its SHA-256
unfoldable pub key_id : List ℕ → List ℕ
key_id key = take 20 (sha256 key)

abbrev pub key_in : Option PublicKey → List ℕ
key_in (Some k) = k.key
key_in None = []

-- the octets of the key in a SubjectPublicKeyInfo
unfoldable pub key_of : List ℕ → List ℕ
key_of spki = key_in (public_key spki)

-- id-alg-hss-lms-hashsig, 1.2.840.113549.1.9.16.3.17 (RFC 9708, 4)
abbrev pub hss_oid : List ℕ
hss_oid = 42 ∷ 134 ∷ 72 ∷ 134 ∷ 247 ∷ 13 ∷ 1 ∷ 9 ∷ 16 ∷ 3 ∷ 17 ∷ []

abbrev pub is_hss : Option PublicKey → Bool
is_hss (Some k) = bytes_eq k.algorithm hss_oid && (length k.parameters == 0) && (length k.key == 60)
is_hss None = false

-- an HSS/LMS key of one trusted form: no parameters, and 60 octets
unfoldable pub is_lms_key : List ℕ → Bool
is_lms_key spki = is_hss (public_key spki)
