-- Public keys with their algorithms (RFC 5280, 4.1.2.7).
use Rattle.std.specs.Prelude.{◌≡◌, ℕ, ◌+◌, ◌^◌, ◌<◌, ◌++◌, ◌==◌, if◌then◌else◌, List, ◌∷◌, length, take, Option, Some, None}
use Rattle.sha2.specs.Sha256.{sha256}
use Rattle.der_base.specs.Element.{element}
use Rattle.der_base.specs.Reading.{Part}
use Rattle.der_base.specs.Values.{bits_at}
use Rattle.asn_fields.specs.Fields.{◌>>=◌, ok_of, field_at, sole_at}
use Rattle.asn_types.specs.Algorithm.{Algorithm, FitsAlgorithm, algorithm_content, algorithm_of, algorithm_at}
use Rattle.asn_types.specs.declared.spki.Spki.{Spki}

-- what stands in the SEQUENCE of SubjectPublicKeyInfo: the algorithm, and the key as a BIT STRING with no unused bits
abbrev pub spki_content : Algorithm → List ℕ → List ℕ
spki_content alg key = element 0x30 (algorithm_content alg) ++ element 0x03 (0 ∷ key)

-- a key's algorithm, its octets, and the content that both stand in
pub record Key : Type 0 where
  pub alg : Algorithm
  pub key : List ℕ
  pub content : List ℕ

abbrev pub key_content : Key → List ℕ
key_content k = spki_content k.alg k.key

-- The parts have the forms of their types, and the content is what they are spelled in.
pub record FitsKey (k : Key) : Type 0 where
  pub whole : k.content ≡ key_content k
  pub alg : FitsAlgorithm k.alg
  pub alg_counted : length (algorithm_content k.alg) < 2 ^ 32
  pub key_counted : length k.key + 1 < 2 ^ 32

-- what a key that was read shows
abbrev pub key_of : Spki → Key
key_of s = record { alg = algorithm_of s.alg; key = s.key.now; content = s.content.now }

-- what is read: the octets of a BIT STRING with no unused bits
unfoldable pub plain_bits_at : Part → Option (List ℕ)
plain_bits_at p = do
  b ← ok_of (bits_at p)
  if b.unused == 0 then Some b.octets else None

unfoldable pub key_at : List ℕ → Option Key
key_at content = do
  a ← field_at 0x30 content
  alg ← algorithm_at a.0.content
  k ← sole_at 0x03 a.1
  key ← plain_bits_at k
  Some (record { alg = alg; key = key; content = content })

-- The key identifier: the first 20 octets of the SHA-256 of the key's octets (RFC 7093, section 2, method 1).
abbrev pub key_identifier : List ℕ → List ℕ
key_identifier key = take 20 (sha256 key)
