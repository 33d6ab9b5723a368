-- Messages of 55 octets, which fill one block with their padding (FIPS 180-4, 5.1.1).
use Rattle.std.specs.Prelude.{ℕ, ◌≡◌, List, [], ◌∷◌, ◌++◌, length}
use Rattle.sha2.specs.Sha256.{sha256, compress, digest_bytes, first_words, initial_hash_256, padding}

-- the words are those of the message's one block
pub record IsBlockOf (message words : List ℕ) : Type 0 where
  pub size : length message ≡ 55
  pub block : words ≡ first_words (message ++ padding 55) 16

-- the words are those of 22 octets and two zeros behind them
pub record IsFrontOf (front words : List ℕ) : Type 0 where
  pub size : length front ≡ 22
  pub filled : words ≡ first_words (front ++ 0 ∷ 0 ∷ []) 6

-- a message of 55 octets is hashed by one compression
abbrev pub OneBlock : Type 0
OneBlock = (m : List ℕ) → length m ≡ 55 → sha256 m ≡ digest_bytes (compress initial_hash_256 (m ++ padding 55)) 8
