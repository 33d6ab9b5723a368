-- PBMAC1-params (RFC 8018, A.5) with PBKDF2 (A.2) and HMAC-SHA-256, of a key of 32 octets, 8 to 64 octets of salt and 1 to
-- 200,000 rounds.
use Rattle.std.specs.Prelude.{ℕ, ◌+◌, ◌*◌, Bool, true, ◌&&◌, nat_lt, nat_le, if◌then◌else◌, List, [], ◌∷◌, length, Option, Some, None}
use Rattle.std.specs.Str.{bytes_eq}
use Rattle.der_base.specs.Reading.{Part}
use Rattle.der_base.specs.Values.{integer_at}
use Rattle.asn_fields.specs.Fields.{◌>>=◌, ok_of, field_at, sole_at, optional_at}
use Rattle.pbmac.specs.Algorithm.{Algorithm, alg_inside}
use Rattle.pbmac.specs.declared.params.MacParams.{MacParams}

-- id-PBMAC1, 1.2.840.113549.1.5.14
unfoldable pub pbmac1 : List ℕ
pbmac1 = 0x2a ∷ 0x86 ∷ 0x48 ∷ 0x86 ∷ 0xf7 ∷ 0x0d ∷ 0x01 ∷ 0x05 ∷ 0x0e ∷ []

-- id-PBKDF2, 1.2.840.113549.1.5.12
unfoldable pub pbkdf2_oid : List ℕ
pbkdf2_oid = 0x2a ∷ 0x86 ∷ 0x48 ∷ 0x86 ∷ 0xf7 ∷ 0x0d ∷ 0x01 ∷ 0x05 ∷ 0x0c ∷ []

-- id-hmacWithSHA256, 1.2.840.113549.2.9
unfoldable pub hmac_sha256 : List ℕ
hmac_sha256 = 0x2a ∷ 0x86 ∷ 0x48 ∷ 0x86 ∷ 0xf7 ∷ 0x0d ∷ 0x02 ∷ 0x09 ∷ []

-- Parameters are NULL or absent.
abbrev pub is_blank : Option (List ℕ) → Bool
is_blank None = true
is_blank (Some whole) = bytes_eq whole (0x05 ∷ 0x00 ∷ [])

-- The algorithm is HMAC-SHA-256 (RFC 8018, B.1.2).
abbrev pub is_hmac_sha256 : Algorithm → Bool
is_hmac_sha256 a = bytes_eq a.oid hmac_sha256 && is_blank a.params

-- a count of rounds that is accepted
abbrev pub accepted : ℕ → Option ℕ
accepted n = if nat_le 1 n && nat_le n 200000 then Some n else None

-- the count of rounds that an INTEGER's content stands for; one of more than three octets is negative or above the limit
unfoldable pub rounds_of : List ℕ → Option ℕ
rounds_of [] = None
rounds_of (a ∷ []) = if nat_lt a 128 then accepted a else None
rounds_of (a ∷ b ∷ []) = if nat_lt a 128 then accepted (a * 256 + b) else None
rounds_of (a ∷ b ∷ c ∷ []) = if nat_lt a 128 then accepted ((a * 256 + b) * 256 + c) else None
rounds_of (a ∷ b ∷ c ∷ d ∷ more) = None

-- what follows a keyLength, which is absent or 32
abbrev pub behind_length : Option Part × List ℕ → Option (List ℕ)
behind_length (None, rest) = Some rest
behind_length (Some p, rest) = if bytes_eq p.content (32 ∷ []) then Some rest else None

unfoldable pub key_length_at : List ℕ → Option (List ℕ)
key_length_at bytes = optional_at 0x02 bytes >>= behind_length

-- the salt, of 8 to 64 octets, and what follows it
unfoldable pub salt_at : List ℕ → Option (List ℕ × List ℕ)
salt_at bytes = do
  f ← field_at 0x04 bytes
  if nat_le 8 (length f.0.content) && nat_le (length f.0.content) 64 then Some (f.0.content, f.1) else None

-- the count of rounds, and what follows it
unfoldable pub count_at : List ℕ → Option (ℕ × List ℕ)
count_at bytes = do
  f ← field_at 0x02 bytes
  number ← ok_of (integer_at f.0)
  rounds ← rounds_of number
  Some (rounds, f.1)

-- HMAC-SHA-256, which stands alone
unfoldable pub sole_hmac_at : List ℕ → Option (List ℕ)
sole_hmac_at bytes = do
  s ← sole_at 0x30 bytes
  a ← alg_inside s.content
  if is_hmac_sha256 a then Some [] else None

-- PBKDF2-params: salt OCTET STRING, iterationCount INTEGER, keyLength INTEGER OPTIONAL, prf AlgorithmIdentifier, which is
-- written since its default is another one
unfoldable pub kdf_inside : List ℕ → Option MacParams
kdf_inside content = do
  salt ← salt_at content
  count ← count_at salt.1
  rest ← key_length_at count.1
  prf ← sole_hmac_at rest
  Some (record { salt = salt.0; rounds = count.0 })

-- what inner reads inside the SEQUENCE that parameters are
abbrev pub inside_whole : (List ℕ → Option MacParams) → Option (List ℕ) → Option MacParams
inside_whole inner None = None
inside_whole inner (Some whole) = sole_at 0x30 whole >>= λ s. inner s.content

-- the parameters of an algorithm with this identifier
abbrev pub inside_params : (List ℕ → Option MacParams) → List ℕ → Algorithm → Option MacParams
inside_params inner oid a = if bytes_eq a.oid oid then inside_whole inner a.params else None

-- PBMAC1-params: keyDerivationFunc and messageAuthScheme
unfoldable pub scheme_inside : List ℕ → Option MacParams
scheme_inside content = do
  kdf ← field_at 0x30 content
  a ← alg_inside kdf.0.content
  mac ← sole_hmac_at kdf.1
  inside_params kdf_inside pbkdf2_oid a

-- the parameters of an algorithm that is PBMAC1
unfoldable pub params_at : Algorithm → Option MacParams
params_at a = inside_params scheme_inside pbmac1 a
