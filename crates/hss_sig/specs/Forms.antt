-- The formats of public keys and signatures of HSS (RFC 8554, 6.1 and 6.2).
use Rattle.std.specs.Prelude.{ℕ, zero, suc, ◌≡◌, ◌+◌, ◌-◌, ◌*◌, ◌^◌, ◌<◌, ◌≤◌, List, [], ◌++◌, Some, length, take, drop, IsSome}
use Rattle.lms_params.specs.Parameters.{OtsRow, ots_row, tree_height}
use Rattle.lms_tree.specs.Verifies.{u32_at}
use Rattle.hss_sig.specs.Hss.{signature_size, HssOk}

-- u32str(L) || the first LMS key, whose typecodes are in the tables; L is 1 to 8 (RFC 8554, 6 and 6.1)
pub record IsHssKey (octets : List ℕ) (levels : ℕ) (first : List ℕ) : Type 0 where
  pub size : length octets ≡ 60
  pub levels_are : u32_at octets 0 ≡ levels
  pub some : 1 ≤ levels
  pub most : levels ≤ 8
  pub first_is : drop 4 octets ≡ first
  pub known : IsSome (signature_size first)

-- u32str(q) || u32str(otstype) || C || y[0] || .. || y[p - 1] || u32str(type) || path[0] || .. || path[h - 1], where both
-- typecodes are in the tables and q is below 2^h (RFC 8554, 4.5 and 5.4)
pub record IsLmsSignature (octets : List ℕ) : Type 0 where
  pub row : OtsRow
  pub h : ℕ
  pub ots_code : ots_row (u32_at octets 4) ≡ Some row
  pub tree_code : tree_height (u32_at octets (40 + 32 * row.p)) ≡ Some h
  pub size : length octets ≡ 44 + 32 * row.p + 32 * h
  pub leaf : u32_at octets 0 < 2 ^ h

-- u32str(type) || u32str(otstype) || I || T[1], where both typecodes are in the tables (RFC 8554, 5.3)
pub record IsLmsKey (octets : List ℕ) : Type 0 where
  pub size : length octets ≡ 56
  pub known : IsSome (signature_size octets)

-- a signature, the key that it signs, and the rest (signed_public_key; RFC 8554, 6.2)
pub record IsSignedKeyThen (Rest : List ℕ → Type 0) (octets : List ℕ) : Type 0 where
  pub signature : List ℕ
  pub key : List ℕ
  pub behind : List ℕ
  pub spelled : octets ≡ signature ++ key ++ behind
  pub signed : IsLmsSignature signature
  pub named : IsLmsKey key
  pub rest : Rest behind

-- n signatures, each with the key that it signs, and nothing else (RFC 8554, 6.2)
abbrev pub AreSignedKeys : ℕ → List ℕ → Type 0
AreSignedKeys zero octets = octets ≡ []
AreSignedKeys (suc n) octets = IsSignedKeyThen (AreSignedKeys n) octets

-- u32str(L - 1) || signed_pub_key[0] || .. || signed_pub_key[L - 2] || sig[L - 1], and nothing follows; L is at most 8 (RFC 8554, 6.2)
pub record IsHssSignature (octets : List ℕ) (levels : ℕ) (upper last : List ℕ) : Type 0 where
  pub some : 4 ≤ length octets
  pub levels_are : u32_at octets 0 + 1 ≡ levels
  pub most : levels ≤ 8
  pub parts : drop 4 octets ≡ upper ++ last
  pub upper_is : AreSignedKeys (levels - 1) upper
  pub last_is : IsLmsSignature last

-- the first k octets are of a form
pub record Fronts (Form : List ℕ → Type 0) (octets : List ℕ) (k : ℕ) : Type 0 where
  pub room : k ≤ length octets
  pub form : Form (take k octets)

-- the octets are a public key, and a signature of as many levels
pub record AreInForm (key sig : List ℕ) : Type 0 where
  pub key_is : IsHssKey key (u32_at key 0) (drop 4 key)
  pub upper : List ℕ
  pub last : List ℕ
  pub sig_is : IsHssSignature sig (u32_at key 0) upper last

-- what is valid is in form (RFC 8554, 6.3)
abbrev pub ValidAreInForm : Type 0
ValidAreInForm = (key text sig : List ℕ) → HssOk key text sig → AreInForm key sig
