-- PBMAC1 with PBKDF2 and HMAC-SHA-256, as an AlgorithmIdentifier (RFC 8018, A.5, A.2 and B.1.2; RFC 9481, 6.1.2). Other key
-- derivations, MACs and pseudorandom functions are left out, and so is a prf that is not written, which means HMAC-SHA-1.
use Rattle.std.specs.Prelude.{◌≡◌, ℕ, ◌<◌, ◌≤◌, ◌++◌, ◌⊎◌, ◌↔◌, IsTrue, slice_index, List, [], ◌∷◌, length, Some, None}
use Rattle.der_base.specs.Element.{IsElement}
use Rattle.der_base.specs.Reading.{Part, big_endian}
use Rattle.der_base.specs.Values.{is_integer}
use Rattle.asn_types.specs.Algorithm.{Algorithm, FitsAlgorithm, algorithm_content}
use Rattle.pbmac.specs.Algorithm.{alg_at}
use Rattle.pbmac.specs.Params.{pbmac1, pbkdf2_oid, hmac_sha256, params_at}
use Rattle.pbmac.specs.declared.params.MacParams.{MacParams}

-- The octets are the spelling of this AlgorithmIdentifier: its SEQUENCE (RFC 5280, 4.1.1.2).
pub record IsAlgorithm (octets : List ℕ) (a : Algorithm) : Type 0 where
  pub fits : FitsAlgorithm a
  pub alone : IsElement octets 0x30 (algorithm_content a)

-- The octets name HMAC-SHA-256, with the parameters NULL or none (RFC 8018, B.1.2).
pub record IsHmac (octets : List ℕ) : Type 0 where
  pub algorithm : Algorithm
  pub is_algorithm : IsAlgorithm octets algorithm
  pub named : algorithm.oid ≡ hmac_sha256
  pub params : (algorithm.params ≡ None) ⊎ (algorithm.params ≡ Some (0x05 ∷ 0x00 ∷ []))

-- The content is that of an INTEGER that stands for this count, which is 1 to 200,000 (X.690, 8.3).
pub record IsCount (content : List ℕ) (count : ℕ) : Type 0 where
  pub form : IsTrue (is_integer content)
  pub positive : slice_index content 0 < 128
  pub value : big_endian content ≡ count
  pub least : 1 ≤ count
  pub most : count ≤ 200000

-- PBKDF2-params, inside their SEQUENCE: a salt of 8 to 64 octets, the count of rounds, the length of the key, which is left out
-- or 32, and the pseudorandom function (RFC 8018, A.2).
pub record IsKdfContent (content salt : List ℕ) (rounds : ℕ) : Type 0 where
  pub salt_element : List ℕ
  pub count_element : List ℕ
  pub count : List ℕ
  pub key_length : List ℕ
  pub prf : List ℕ
  pub parts : content ≡ salt_element ++ (count_element ++ (key_length ++ prf))
  pub is_salt : IsElement salt_element 0x04 salt
  pub salt_least : 8 ≤ length salt
  pub salt_most : length salt ≤ 64
  pub count_is : IsElement count_element 0x02 count
  pub is_count : IsCount count rounds
  pub is_key_length : (key_length ≡ []) ⊎ IsElement key_length 0x02 (32 ∷ [])
  pub is_prf : IsHmac prf

-- The octets name PBKDF2 with this salt and count (RFC 8018, A.2).
pub record IsKdf (octets salt : List ℕ) (rounds : ℕ) : Type 0 where
  pub algorithm : Algorithm
  pub params : List ℕ
  pub content : List ℕ
  pub is_algorithm : IsAlgorithm octets algorithm
  pub named : algorithm.oid ≡ pbkdf2_oid
  pub given : algorithm.params ≡ Some params
  pub is_sequence : IsElement params 0x30 content
  pub is_content : IsKdfContent content salt rounds

-- The algorithm is PBMAC1 with this salt and count: its parameters are keyDerivationFunc and messageAuthScheme (RFC 8018, A.5).
pub record IsPbmac1 (algorithm : Algorithm) (salt : List ℕ) (rounds : ℕ) : Type 0 where
  pub params : List ℕ
  pub content : List ℕ
  pub kdf : List ℕ
  pub mac : List ℕ
  pub named : algorithm.oid ≡ pbmac1
  pub given : algorithm.params ≡ Some params
  pub is_sequence : IsElement params 0x30 content
  pub parts : content ≡ kdf ++ mac
  pub is_kdf : IsKdf kdf salt rounds
  pub is_mac : IsHmac mac

-- An element is read as an algorithm exactly where its octets are the algorithm's spelling.
abbrev pub AlgorithmIsSpelled : Type 0
AlgorithmIsSpelled = (p : Part) (a : Algorithm) → IsElement p.whole p.tag p.content → (alg_at p ≡ Some a) ↔ IsAlgorithm p.whole a

-- A salt and a count are read from an algorithm exactly where it is PBMAC1 with these.
abbrev pub ParamsAreSpelled : Type 0
ParamsAreSpelled = (a : Algorithm) (p : MacParams) → (params_at a ≡ Some p) ↔ IsPbmac1 a p.salt p.rounds

-- An algorithm is PBMAC1 with one salt and one count at most.
abbrev pub ParamsAreOne : Type 0
ParamsAreOne = (a : Algorithm) (salt other : List ℕ) (rounds count : ℕ) → IsPbmac1 a salt rounds → IsPbmac1 a other count → (salt ≡ other) × (rounds ≡ count)
