-- A key file as it is read, part by part: a working tool of the proofs. What the file gives stands in Keys.
use Rattle.std.specs.Prelude.{ℕ, ◌≡◌, List, Option, Result, Ok, Err, IfSome}
use Rattle.reply_maker.specs.declared.key_file.KeyFile.{KeyFile}
use Rattle.reply_maker.specs.declared.key_file.KeyFault.{KeyFault}
use Rattle.reply_maker.specs.declared.key_file.KeyFault.TheVariants.{ReadFault, BadKeyFile, KeyMismatch, NoMemory}
use Rattle.reply_maker.specs.KeyFile.{IsKeyFile, key_file, issue_seed, issue_id, reply_seed, reply_id}

-- the file of parts
abbrev pub joined : KeyFile → List ℕ
joined k = key_file k.issue.seed k.issue.id k.reply.seed k.reply.id

-- The octets are a key file of these parts.
pub record HasParts (file : List ℕ) (k : KeyFile) : Type 0 where
  pub form : IsKeyFile file
  pub issue_seed : k.issue.seed ≡ issue_seed file
  pub issue_id : k.issue.id ≡ issue_id file
  pub reply_seed : k.reply.seed ≡ reply_seed file
  pub reply_id : k.reply.id ≡ reply_id file

abbrev pub GivesParts : List ℕ → Result KeyFile KeyFault → Type 0
GivesParts file (Ok k) = HasParts file k
GivesParts file (Err BadKeyFile) = IsKeyFile file → ⊥
GivesParts file (Err ReadFault) = Unit {0}
GivesParts file (Err NoMemory) = Unit {0}
GivesParts file (Err (KeyMismatch told known)) = ⊥

-- .. from what the source had left, where it tells it
pub record IsRead (left : Option (List ℕ)) (answer : Result KeyFile KeyFault) : Type 0 where
  pub file : List ℕ
  pub read : IfSome left (λ all. all ≡ file)
  pub gives : GivesParts file answer
