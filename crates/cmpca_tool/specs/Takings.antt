-- What the parts of take tell each other: working tools of the proofs. What take does stands in Takes.
use Rattle.std.specs.Prelude.{ℕ, ◌≡◌, ◌⊎◌, Bool, true, false, List, [], Option, Some, None, IfSome, Ok, Err, codes}
use Rattle.cmp_ports.specs.declared.note.Answered.{Answered}
use Rattle.cmp_ports.specs.declared.note.Answered.TheVariants as answered
use Rattle.cmp_ports.specs.declared.note.Outcome.{Outcome}
use Rattle.cmp_ports.specs.declared.note.Outcome.TheVariants as outcome
use Rattle.deal_changes.specs.declared.change.Change.{Change}
use Rattle.deal_model.specs.Views.{History}
use Rattle.desk.specs.Images.{RecoversWith, MayCome}
use Rattle.letter_laws.specs.Laws.{HasLetter}
use Rattle.deal_changes.specs.declared.change.Settings.{Settings}
use Rattle.reply_maker.specs.Keys.{Loaded, IsLoad}
use Rattle.reply_maker.specs.Replies.{Replier}
use Rattle.reply_maker.specs.declared.key_file.KeyFault.{KeyFault}
use Rattle.reply_maker.specs.declared.key_file.KeyFault.TheVariants as keys
use Rattle.front.specs.declared.device.Device.{Device}
use Rattle.front.specs.declared.device.Device.TheVariants.{Entropy, Disk}
use Rattle.cmpca_tool.specs.Changes.{IsStep}
use Rattle.cmpca_tool.specs.Lines.{line}
use Rattle.cmpca_tool.specs.Takes.{EndsBy, OwnChange, key_status, key_lines}
use Rattle.cmpca_tool.specs.declared.take.Untaken.{Untaken}
use Rattle.cmpca_tool.specs.declared.take.Untaken.TheVariants as untaken
use Rattle.cmpca_tool.specs.declared.status.Status.{Status}
use Rattle.cmpca_tool.specs.declared.status.Status.TheVariants.{Done, Refused, ReadFault, DiskFault, NoMemory}

-- The reply to a key file that gives no keys; want of memory comes besides.
pub record IsKeyReply (fault : KeyFault) (status : Status) (text : List ℕ) : Type 0 where
  pub told : KeyFault
  pub is_told : (told ≡ fault) ⊎ (told ≡ keys.NoMemory)
  pub ends : status ≡ key_status told
  pub says : text ≡ key_lines told

-- why there is no message to answer
abbrev pub IsWhyUntaken : Option (List ℕ) → Settings → Untaken → Type 0
IsWhyUntaken left s (untaken.Keyless fault) = IsLoad left s (Err fault)
IsWhyUntaken left s untaken.ReadFault = (keys : Loaded) × IsLoad left s (Ok keys)
IsWhyUntaken left s untaken.NoMemory = (keys : Loaded) × IsLoad left s (Ok keys)

-- whether it is for want of keys
abbrev pub is_keyless : Untaken → Bool
is_keyless (untaken.Keyless fault) = true
is_keyless _ = false

-- the reply then
abbrev pub IsUntakenReply : Untaken → Status → List ℕ → Type 0
IsUntakenReply (untaken.Keyless fault) status text = IsKeyReply fault status text
IsUntakenReply untaken.ReadFault status text = (status ≡ ReadFault) × (text ≡ line (codes "read fault"))
IsUntakenReply untaken.NoMemory status text = (status ≡ NoMemory) × (text ≡ line (codes "no memory"))

-- how a run ends where a device failed, and by how the message ended
abbrev pub device_status : Option Device → Status
device_status (Some Entropy) = ReadFault
device_status (Some Disk) = DiskFault
device_status None = DiskFault

abbrev pub outcome_status : Outcome → Option Device → Status
outcome_status outcome.Done failed = Done
outcome_status outcome.Again failed = Done
outcome_status (outcome.Refused fail) failed = Refused
outcome_status outcome.SystemFailure failed = device_status failed

-- the same, and what is written, by how the message was answered
abbrev pub taken_status : Answered → Option Device → Status
taken_status (answered.Replied note) failed = outcome_status note.outcome failed
taken_status answered.NoMemory failed = NoMemory
taken_status answered.Failed failed = NoMemory

abbrev pub taken_text : Answered → List ℕ → List ℕ
taken_text (answered.Replied note) reply = reply
taken_text answered.NoMemory reply = line (codes "no memory")
taken_text answered.Failed reply = []

-- A message was answered over the history h, which is g after it with e in doubt, at the one reading and by the one draw.
pub record IsAnswering (k : Replier) (b : List ℕ) (IsReading : ℕ → Type 0) (IsDraw : Option (List ℕ) → Type 0) (stops_leave : (List ℕ → Type 0) → Type 0) (h g : History) (e : Option Change) (status : Status) (text : List ℕ) : Type 0 where
  pub now : ℕ
  pub reading : IsReading now
  pub draw : Option (List ℕ)
  pub drawn : IsDraw draw
  pub letter : HasLetter b
  pub makes : IsStep (OwnChange k b now draw h) h g e
  pub ends : EndsBy k b now draw h status text g
  pub doubt : IfSome e (OwnChange k b now draw h)
  pub moments : stops_leave (RecoversWith h (MayCome (OwnChange k b now draw h) h))
