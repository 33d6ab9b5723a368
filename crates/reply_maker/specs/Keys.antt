-- The keys of an authority, as its key file and its settings have them.
use Rattle.std.specs.Prelude.{ℕ, ◌≡◌, ◌≢◌, ◌≤◌, ◌^◌, ◌==◌, Bool, false, List, ◌++◌, length, drop, Option, Some, None, if◌then◌else◌, Result, Ok, Err, MatchResult, IfSome, IsTrue}
use Rattle.std.specs.List.{list_all}
use Rattle.lms_tree.specs.Keys.{Secret}
use Rattle.hss_sig.specs.OneLevel.{hss_key}
use Rattle.deal_changes.specs.declared.change.Settings.{Settings}
use Rattle.deal_changes.specs.Spki.{is_ca_name}
use Rattle.deal_model.specs.Keys.{levels_of, tree_of, ots_of}
use Rattle.reply_maker.specs.KeyFile.{IsKeyFile, IsReadSoFar, key_file, issue_seed, issue_id, reply_seed, reply_id}
use Rattle.reply_maker.specs.Certificates.{root_of, reply_of}
use Rattle.reply_maker.specs.declared.certificates.OwnCertificates.{OwnCertificates}
use Rattle.reply_maker.specs.declared.key_file.KeyFault.{KeyFault}
use Rattle.reply_maker.specs.declared.key_file.KeyFault.TheVariants.{ReadFault, BadKeyFile, KeyMismatch, NoMemory}

-- A public key of one level and of the sets that an authority may have (RFC 8554, 6.1, 5.1 and 4.1). It may be blank.
pub record HasOwnSets (key : List ℕ) : Type 0 where
  pub whole : length key ≡ 60
  pub levels : levels_of key ≡ 1
  pub tree_low : 5 ≤ tree_of key
  pub tree_high : tree_of key ≤ 7
  pub ots_low : 1 ≤ ots_of key
  pub ots_high : ots_of key ≤ 4

-- what an authority may be founded with, its keys aside, which may be blank
pub record AreUsable (s : Settings) : Type 0 where
  pub time : s.time ≤ 250000000000
  pub name : IsTrue (is_ca_name s.name)
  pub issue_key : HasOwnSets s.issue_key
  pub reply_key : HasOwnSets s.reply_key
  pub wait_low : 1 ≤ s.wait
  pub wait_high : s.wait ≤ 604800
  pub skew_high : s.skew ≤ 86400
  pub rounds_low : 1 ≤ s.rounds
  pub rounds_high : s.rounds ≤ 200000
  pub check_low : 1 ≤ s.check_after
  pub check_high : s.check_after ≤ 86400
  pub days_low : 1 ≤ s.days
  pub days_high : s.days ≤ 36500

-- the private key of a seed and an identifier, with the sets of a public key
abbrev pub secret_of : List ℕ → List ℕ → List ℕ → Secret
secret_of seed id key = record { seed = seed; id = id; tree = tree_of key; ots = ots_of key }

-- the two keys of a key file, with the sets of the settings
unfoldable pub issue_secret : List ℕ → Settings → Secret
issue_secret file s = secret_of (issue_seed file) (issue_id file) s.issue_key

unfoldable pub reply_secret : List ℕ → Settings → Secret
reply_secret file s = secret_of (reply_seed file) (reply_id file) s.reply_key

-- By what an authority is known: the identifier and the root of each key, which stand behind the number of levels and the
-- type codes (RFC 8554, 5.3 and 6.1).
abbrev pub identity_in : List ℕ → List ℕ → List ℕ
identity_in issue_key reply_key = drop 12 issue_key ++ drop 12 reply_key

-- that of a key file, with the sets of the settings
unfoldable pub identity_of : List ℕ → Settings → List ℕ
identity_of file s = identity_in (hss_key (issue_secret file s)) (hss_key (reply_secret file s))

-- that of the settings
unfoldable pub known_identity : Settings → List ℕ
known_identity s = identity_in s.issue_key s.reply_key

-- whether the keys of the settings aren't made yet
abbrev pub are_blank : Settings → Bool
are_blank s = list_all (λ n. n == 0) (known_identity s)

-- The key file is that of the settings, where their keys are made.
abbrev pub Agrees : List ℕ → Settings → Type 0
Agrees file s = are_blank s ≡ false → identity_of file s ≡ known_identity s

-- the key file of two keys
abbrev pub file_of : Secret → Secret → List ℕ
file_of issue reply = key_file issue.seed issue.id reply.seed reply.id

-- the certificates that the issuing key makes: none where the keys of the settings aren't made yet
abbrev pub certificates_of : Secret → Settings → Option OwnCertificates
certificates_of issue s = if are_blank s then None else Some (record { root = root_of issue s; reply = reply_of issue s })

-- what its own certificates have at most: a signature has 75,000 octets or less
pub record AreShort (c : OwnCertificates) : Type 0 where
  pub root : length c.root ≤ 2 ^ 19
  pub reply : length c.reply ≤ 2 ^ 19

-- The keys are those of their key file, under the settings that they are kept with, and the file is the settings' own.
pub record AreKept (issue reply : Secret) (certificates : Option OwnCertificates) (s : Settings) : Type 0 where
  pub file : IsKeyFile (file_of issue reply)
  pub usable : AreUsable s
  pub issue_is : issue ≡ issue_secret (file_of issue reply) s
  pub reply_is : reply ≡ reply_secret (file_of issue reply) s
  pub agrees : Agrees (file_of issue reply) s
  pub own : certificates ≡ certificates_of issue s
  pub short : IfSome certificates AreShort

-- what keys were loaded from
pub record Loaded : Type 0 where
  pub file : List ℕ
  pub settings : Settings

-- What the key file gives under the settings: the keys; or it is of no form; or it is another's, which is told where the keys
-- of the settings are made. A fault of reading and want of memory say nothing of it.
abbrev pub Gives : List ℕ → Settings → Result Loaded KeyFault → Type 0
Gives file s (Ok keys) = IsKeyFile file × Agrees file s × (keys ≡ record { file = file; settings = s })
Gives file s (Err BadKeyFile) = IsKeyFile file → ⊥
Gives file s (Err (KeyMismatch told known)) = IsKeyFile file × (are_blank s ≡ false) × (told ≡ identity_of file s) × (known ≡ known_identity s) × (told ≢ known)
Gives file s (Err ReadFault) = Unit {0}
Gives file s (Err NoMemory) = Unit {0}

-- the answer from what the source of the key file had left, where it tells it
pub record IsLoad (left : Option (List ℕ)) (s : Settings) (answer : Result Loaded KeyFault) : Type 0 where
  pub file : List ℕ
  pub read : IfSome left (λ all. all ≡ file)
  pub gives : Gives file s answer

-- How far the source is read, by why there are no keys. A fault of reading and want of memory say nothing of it.
abbrev pub IsReadBy : Option (List ℕ) → Option (List ℕ) → KeyFault → Type 0
IsReadBy left after BadKeyFile = IsReadSoFar left after
IsReadBy left after (KeyMismatch told known) = IsReadSoFar left after
IsReadBy left after ReadFault = Unit {0}
IsReadBy left after NoMemory = Unit {0}

-- .. by the answer
abbrev pub LeavesRest : {A : Type 0} → Option (List ℕ) → Option (List ℕ) → Result A KeyFault → Type 0
LeavesRest left after answer = MatchResult answer (λ _. IsReadSoFar left after) (IsReadBy left after)
