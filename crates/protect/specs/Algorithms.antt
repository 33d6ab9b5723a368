-- The algorithms of protections, as they are written.
use Rattle.std.specs.Prelude.{ℕ, ◌++◌, List, [], ◌∷◌, Some, None}
use Rattle.der_base.specs.Element.{element}
use Rattle.asn_types.specs.Algorithm.{Algorithm, algorithm_content}
use Rattle.asn_parts.specs.Number.{number_octets}
use Rattle.pbmac.specs.Params.{pbmac1, pbkdf2_oid, hmac_sha256}

-- id-alg-hss-lms-hashsig, 1.2.840.113549.1.9.16.3.17 (RFC 9708, 4)
unfoldable pub hss_oid : List ℕ
hss_oid = 0x2a ∷ 0x86 ∷ 0x48 ∷ 0x86 ∷ 0xf7 ∷ 0x0d ∷ 0x01 ∷ 0x09 ∷ 0x10 ∷ 0x03 ∷ 0x11 ∷ []

-- HSS/LMS, which has no parameters
abbrev pub hss_lms : Algorithm
hss_lms = record { oid = hss_oid; params = None }

-- the octets of an AlgorithmIdentifier
abbrev pub algorithm_octets : Algorithm → List ℕ
algorithm_octets a = element 0x30 (algorithm_content a)

-- HMAC-SHA-256 with the parameters NULL (RFC 8018, B.1.2)
abbrev pub hmac_algorithm : Algorithm
hmac_algorithm = record { oid = hmac_sha256; params = Some (0x05 ∷ 0x00 ∷ []) }

-- PBKDF2-params: the salt, the count of rounds, and the pseudorandom function; the key's length is left out (RFC 8018, A.2)
abbrev pub kdf_content : List ℕ → ℕ → List ℕ
kdf_content salt rounds = element 0x04 salt ++ (element 0x02 (number_octets rounds) ++ algorithm_octets hmac_algorithm)

abbrev pub kdf_algorithm : List ℕ → ℕ → Algorithm
kdf_algorithm salt rounds = record { oid = pbkdf2_oid; params = Some (element 0x30 (kdf_content salt rounds)) }

-- PBMAC1-params: the derivation of the key, and the MAC (RFC 8018, A.5)
abbrev pub scheme_content : List ℕ → ℕ → List ℕ
scheme_content salt rounds = algorithm_octets (kdf_algorithm salt rounds) ++ algorithm_octets hmac_algorithm

abbrev pub mac_algorithm : List ℕ → ℕ → Algorithm
mac_algorithm salt rounds = record { oid = pbmac1; params = Some (element 0x30 (scheme_content salt rounds)) }
