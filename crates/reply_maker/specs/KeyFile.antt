-- The key file of an authority: the private keys of its two trees (RFC 8554, 5.2 and appendix A), that which signs
-- certificates before that which signs replies.
use Rattle.std.specs.Prelude.{ℕ, ◌≡◌, ◌≢◌, List, ◌++◌, length, take, drop, replicate, Option, IfSome, IsSomeAnd}

-- the file of these four parts, in order
abbrev pub key_file : List ℕ → List ℕ → List ℕ → List ℕ → List ℕ
key_file seed id other_seed other_id = seed ++ (id ++ (other_seed ++ other_id))

-- SEED and I of the issuing key: octets 0 to 31, and 32 to 47
abbrev pub issue_seed : List ℕ → List ℕ
issue_seed file = take 32 file

abbrev pub issue_id : List ℕ → List ℕ
issue_id file = take 16 (drop 32 file)

-- SEED and I of the reply key: octets 48 to 79, and 80 to 95
abbrev pub reply_seed : List ℕ → List ℕ
reply_seed file = take 32 (drop 48 file)

abbrev pub reply_id : List ℕ → List ℕ
reply_id file = take 16 (drop 80 file)

-- The file has 96 octets, and two identifiers that differ and aren't all zeros.
pub record IsKeyFile (file : List ℕ) : Type 0 where
  pub size : length file ≡ 96
  pub apart : issue_id file ≢ reply_id file
  pub issue_id_given : issue_id file ≢ replicate 16 0
  pub reply_id_given : reply_id file ≢ replicate 16 0

-- A stream is read so far that a key file and a longer one can be told apart: what is left is what stands behind its first 97 octets.
abbrev pub IsReadSoFar : Option (List ℕ) → Option (List ℕ) → Type 0
IsReadSoFar left after = IfSome left (λ all. IsSomeAnd after (λ rest. rest ≡ drop 97 all))
