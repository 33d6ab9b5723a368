-- What init does: it founds a service on the disk, with the settings of the input and the keys of the key file, at the clock's
-- reading.
use Rattle.std.specs.Prelude.{ℕ, ◌≡◌, ◌≢◌, ◌⊎◌, true, false, List, [], ◌∷◌, ◌++◌, Option, IfSome, Result, Ok, Err, codes}
use Rattle.hex.specs.Hex.{encode_lower}
use Rattle.cmp_ports.specs.Disk.{Every}
use Rattle.hss_sig.specs.OneLevel.{hss_key}
use Rattle.journal_core.specs.Log.{is_founded}
use Rattle.deal_changes.specs.declared.change.Change.{Change}
use Rattle.deal_changes.specs.declared.change.Settings.{Settings}
use Rattle.deal_changes.specs.Spelling.{spelling}
use Rattle.deal_model.specs.Rules.{Allowed, Legal}
use Rattle.registry.specs.declared.fault.RegFault.{RegFault}
use Rattle.registry.specs.declared.fault.RegFault.TheVariants as files
use Rattle.registry.specs.Settings.{settings_in}
use Rattle.desk.specs.declared.answers.FoundFault.{FoundFault}
use Rattle.desk.specs.declared.answers.FoundFault.TheVariants as founds
use Rattle.desk.specs.Images.{Recovers}
use Rattle.desk.specs.Founded.{founding, IsBegun}
use Rattle.reply_maker.specs.declared.key_file.KeyFault.{KeyFault}
use Rattle.reply_maker.specs.declared.key_file.KeyFault.TheVariants as keys
use Rattle.reply_maker.specs.KeyFile.{IsKeyFile}
use Rattle.reply_maker.specs.Keys.{issue_secret, reply_secret, identity_of}
use Rattle.cmpca_tool.specs.Lines.{line}
use Rattle.cmpca_tool.specs.Sources.{SourceRun}
use Rattle.cmpca_tool.specs.Changes.{DiskRun, IsUnchanged}
use Rattle.cmpca_tool.specs.Deeds.{file_status, file_line, IsCutShort}
use Rattle.cmpca_tool.specs.declared.file.Unread.{Unread}
use Rattle.cmpca_tool.specs.declared.file.Unread.TheVariants.{Bad}
use Rattle.cmpca_tool.specs.declared.file.Unread.TheVariants as unread
use Rattle.cmpca_tool.specs.declared.status.Status.{Status}
use Rattle.cmpca_tool.specs.declared.status.Status.TheVariants.{Done, Refused, ReadFault, DiskFault, NoMemory, BadKeyFile}

-- the settings with the public keys of the key file
abbrev pub with_keys : List ℕ → Settings → Settings
with_keys file s = record s { issue_key = hss_key (issue_secret file s); reply_key = hss_key (reply_secret file s) }

-- the change that founds the service
abbrev pub first_change : List ℕ → Settings → ℕ → Change
first_change file s now = founding (with_keys file s) now

-- the line that tells by what the authority is known
abbrev pub founded_line : List ℕ → List ℕ
founded_line identity = line (codes "founded " ++ encode_lower identity)

-- The disk wasn't founded, and holds the one change now; the line tells by what the authority is known.
pub record Founds (disk : DiskRun) (identity : List ℕ) (c : Change) (status : Status) (text : List ℕ) : Type 0 where
  pub free : IfSome disk.content_before (λ f. is_founded f ≡ false)
  pub content : IfSome disk.content_after (λ f. Recovers f (c ∷ []))
  pub images : Every disk.images_after (λ f. Recovers f (c ∷ []))
  pub lawful : Legal (c ∷ [])
  pub moments : disk.stops_leave (IsBegun disk.images_before (spelling c))
  pub ends : status ≡ Done
  pub says : text ≡ founded_line identity

-- The disk was founded before, and stays as it was.
pub record WasFounded (disk : DiskRun) (status : Status) (text : List ℕ) : Type 0 where
  pub founded : IfSome disk.content_before (λ f. is_founded f ≡ true)
  pub unchanged : IsUnchanged disk
  pub ends : status ≡ Refused
  pub says : text ≡ line (codes "refused already founded")

-- the disk failed, or memory ran out
abbrev pub TellsFailure : Status → List ℕ → Type 0
TellsFailure DiskFault text = text ≡ line (codes "disk fault")
TellsFailure NoMemory text = text ≡ line (codes "no memory")
TellsFailure _ text = ⊥

-- The founding is cut off. A disk that was founded stays as it was; otherwise a stop leaves an image from before, a disk that isn't
-- founded, or one with the one change, which may come first.
pub record IsCutOff (disk : DiskRun) (c : Change) (status : Status) (text : List ℕ) : Type 0 where
  pub spared : IfSome disk.content_before (λ f. is_founded f ≡ true → IsUnchanged disk)
  pub first : Allowed [] c
  pub moments : disk.stops_leave (IsBegun disk.images_before (spelling c))
  pub says : TellsFailure status text

-- with keys and settings at hand
abbrev pub IsFoundReply : DiskRun → List ℕ → Change → Status → List ℕ → Type 0
IsFoundReply disk identity c status text = Founds disk identity c status text ⊎ (WasFounded disk status text ⊎ IsCutOff disk c status text)

-- the key file is of no form, and nothing is done
pub record IsBadKeyFile (disk : DiskRun) (key : List ℕ) (status : Status) (text : List ℕ) : Type 0 where
  pub bad : IsKeyFile key → ⊥
  pub unchanged : IsUnchanged disk
  pub ends : status ≡ BadKeyFile
  pub says : text ≡ line (codes "bad key file")

-- by what the input says: settings, or its first fault, and then the key file isn't read. Where it says settings, a fault of the key
-- file and want of memory come besides, before the disk is used.
abbrev pub InitsRead : Result Settings RegFault → DiskRun → SourceRun → ℕ → List ℕ → Status → List ℕ → Type 0
InitsRead (Err fault) disk keys now key status text = (status ≡ file_status fault) × (text ≡ file_line fault) × IsUnchanged disk × keys.unread
InitsRead (Ok s) disk keys now key status text =
    IsBadKeyFile disk key status text
    ⊎ ((IsKeyFile key × IsFoundReply disk (identity_of key s) (first_change key s now) status text) ⊎ (IsCutShort keys.failed status text × IsUnchanged disk))

-- Init replies by the input, then by the key file, then by the disk. A fault of the input and want of memory come besides, before the
-- key file is read.
abbrev pub IsInitReply : DiskRun → SourceRun → SourceRun → ℕ → List ℕ → List ℕ → Status → List ℕ → Type 0
IsInitReply disk inputs keys now input key status text =
    InitsRead (settings_in input) disk keys now key status text ⊎ (IsCutShort inputs.failed status text × IsUnchanged disk × keys.unread)

-- ---- what is read

-- what the file of settings says that the source had left
pub record SaysSettings (left : Option (List ℕ)) (told : Result Settings RegFault) : Type 0 where
  pub file : List ℕ
  pub whole : IfSome left (λ all. all ≡ file)
  pub tells : settings_in file ≡ told

-- why there are no settings: a fault of the file, but for want of memory; or of the input
abbrev pub IsUnset : Option (List ℕ) → Unread → Type 0
IsUnset left (Bad fault) = (fault ≢ files.NoMemory) → SaysSettings left (Err fault)
IsUnset left unread.ReadFault = Unit {0}

-- the reply where no keys are loaded; where nothing is compared, a key file is no other authority's
abbrev pub IsUnloadedReply : KeyFault → Status → List ℕ → Type 0
IsUnloadedReply keys.ReadFault status text = (status ≡ ReadFault) × (text ≡ line (codes "read fault"))
IsUnloadedReply keys.BadKeyFile status text = (status ≡ BadKeyFile) × (text ≡ line (codes "bad key file"))
IsUnloadedReply (keys.KeyMismatch told known) status text = ⊥
IsUnloadedReply keys.NoMemory status text = (status ≡ NoMemory) × (text ≡ line (codes "no memory"))

-- the reply where the disk isn't founded by the run
abbrev pub IsUnfoundedReply : FoundFault → Status → List ℕ → Type 0
IsUnfoundedReply founds.Already status text = (status ≡ Refused) × (text ≡ line (codes "refused already founded"))
IsUnfoundedReply founds.DiskFault status text = (status ≡ DiskFault) × (text ≡ line (codes "disk fault"))
IsUnfoundedReply founds.NoMemory status text = (status ≡ NoMemory) × (text ≡ line (codes "no memory"))
