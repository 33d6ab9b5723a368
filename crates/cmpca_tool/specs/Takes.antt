-- What take does: it answers the message of the input over the history that the disk holds, with the keys of the key file.
use Rattle.std.specs.Prelude.{ℕ, ◌≡◌, ◌+◌, ◌⊎◌, List, [], ◌∷◌, ◌++◌, take, Option, Some, None, IfSome, Ok, Err, codes}
use Rattle.hex.specs.Hex.{encode_lower}
use Rattle.cmp_ports.specs.Disk.{Every}
use Rattle.cmp_values.specs.declared.fail_info.FailInfo.TheVariants.{SystemFailure}
use Rattle.deal_changes.specs.declared.change.Change.{Change}
use Rattle.deal_model.specs.Views.{History, settings_of}
use Rattle.deal_table.specs.History.{event_time}
use Rattle.deal_table.specs.Message.{echo_of}
use Rattle.deal_table.specs.Table.{Decision, Makes, Repeats, Refuses, Asks}
use Rattle.desk.specs.Images.{Recovers}
use Rattle.letter_laws.specs.Laws.{HasLetter}
use Rattle.pki_message.specs.Frame.{message_limit}
use Rattle.reply_maker.specs.KeyFile.{IsKeyFile}
use Rattle.reply_maker.specs.Keys.{Agrees, Gives}
use Rattle.reply_maker.specs.Refusals.{refusal_of}
use Rattle.reply_maker.specs.Replies.{Replier, replier_of}
use Rattle.reply_maker.specs.declared.key_file.KeyFault.{KeyFault}
use Rattle.reply_maker.specs.declared.key_file.KeyFault.TheVariants as keys
use Rattle.front.specs.Answers.{ForLetter, IsDecision, IsOwn, after}
use Rattle.front.specs.Answers as front
use Rattle.cmpca_tool.specs.Lines.{line}
use Rattle.cmpca_tool.specs.Mounts.{IsAnswer, TellsFault}
use Rattle.cmpca_tool.specs.Sources.{Devices}
use Rattle.cmpca_tool.specs.Changes.{DiskRun, IsUnchanged, IsChanged}
use Rattle.cmpca_tool.specs.Deeds.{IsCutShort}
use Rattle.cmpca_tool.specs.declared.status.Identity.{Identity}
use Rattle.cmpca_tool.specs.declared.status.Status.{Status}
use Rattle.cmpca_tool.specs.declared.status.Status.TheVariants.{Done, Refused, ReadFault, DiskFault, NoMemory, KeyMismatch, BadKeyFile}

-- what is read of the input: at most one octet past the longest message
abbrev pub message_in : List ℕ → List ℕ
message_in input = take (message_limit + 1) input

-- what the authority replies with: the keys of the key file, under the settings of the history
abbrev pub replier_at : List ℕ → History → Replier
replier_at file h = replier_of file (settings_of h)

-- ---- the key file

-- the file has its form, and is that of the history's settings
pub record IsOwnFile (file : List ℕ) (h : History) : Type 0 where
  pub form : IsKeyFile file
  pub agrees : Agrees file (settings_of h)

-- an identity of 96 octets, as a status carries it
abbrev pub whole_identity : List ℕ → Identity
whole_identity octets = record { octets = octets; length = 96 }

-- how a run ends whose key file gives no keys, and what it writes
abbrev pub key_status : KeyFault → Status
key_status keys.ReadFault = ReadFault
key_status keys.BadKeyFile = BadKeyFile
key_status (keys.KeyMismatch file journal) = KeyMismatch (whole_identity file) (whole_identity journal)
key_status keys.NoMemory = NoMemory

abbrev pub mismatch_lines : List ℕ → List ℕ → List ℕ
mismatch_lines file journal = line (codes "key mismatch") ++ (line (codes "file " ++ encode_lower file) ++ line (codes "journal " ++ encode_lower journal))

abbrev pub key_lines : KeyFault → List ℕ
key_lines keys.ReadFault = line (codes "read fault")
key_lines keys.BadKeyFile = line (codes "bad key file")
key_lines (keys.KeyMismatch file journal) = mismatch_lines file journal
key_lines keys.NoMemory = line (codes "no memory")

-- The key file gives no keys under the settings of the history, and it is told why: a fault of reading only where one has this cause.
pub record TellsKeyFault (Failed : Type 0) (file : List ℕ) (h : History) (status : Status) (text : List ℕ) : Type 0 where
  pub fault : KeyFault
  pub given : Gives file (settings_of h) (Err fault)
  pub failed : fault ≡ keys.ReadFault → Failed
  pub ends : status ≡ key_status fault
  pub says : text ≡ key_lines fault

-- ---- the answer to the message
--
-- In each word k is what the authority replies with, b the octets of the message, now the clock's reading, w the words that were
-- drawn, h the history before and g the one after.

-- a message is done, or was done before; or it is refused
abbrev pub EndsAs : Decision → Status → Type 0
EndsAs (Makes c) status = status ≡ Done
EndsAs (Repeats place) status = status ≡ Done
EndsAs (Refuses fail to) status = status ≡ Refused
EndsAs (Asks place) status = ⊥

-- The text is the answer to what is decided of the message, and the history gains the change that is made.
pub record Replies (k : Replier) (b : List ℕ) (now : ℕ) (w : List ℕ) (h : History) (status : Status) (text : List ℕ) (g : History) : Type 0 where
  pub what : Decision
  pub decided : IsDecision k b h now w what
  pub ends : EndsAs what status
  pub says : front.IsAnswer k b h now w what text
  pub grown : g ≡ after h what

-- A device failed: the text is the refusal systemFailure, and the history stays. The message itself is refused, which may nest
-- another one, with no words and under nothing.
pub record Fails (k : Replier) (b : List ℕ) (now : ℕ) (h : History) (text : List ℕ) (g : History) : Type 0 where
  pub says : ForLetter k b (λ l. text ≡ refusal_of k.keys (echo_of l.message.header) SystemFailure None (event_time h now) None)
  pub same : g ≡ h

-- Memory ran out: the history stays, or it has the message's own change.
pub record RunsOut (Own : Change → Type 0) (h : History) (text : List ℕ) (g : History) : Type 0 where
  pub says : text ≡ line (codes "no memory")
  pub left : (g ≡ h) ⊎ ((c : Change) × Own c × (g ≡ h ++ c ∷ []))

-- the message's own change, by the draw; without words there is none
abbrev pub OwnChange : Replier → List ℕ → ℕ → Option (List ℕ) → History → Change → Type 0
OwnChange k b now (Some w) h c = IsOwn k b h now w c
OwnChange k b now None h c = ⊥

-- by the status of the run, with words that were drawn
abbrev pub Ends : Replier → List ℕ → ℕ → List ℕ → History → Status → List ℕ → History → Type 0
Ends k b now w h Done text g = Replies k b now w h Done text g
Ends k b now w h Refused text g = Replies k b now w h Refused text g
Ends k b now w h DiskFault text g = Fails k b now h text g
Ends k b now w h NoMemory text g = RunsOut (IsOwn k b h now w) h text g
Ends k b now w h _ text g = ⊥

-- and where the draw failed
abbrev pub EndsUndrawn : Replier → List ℕ → ℕ → History → Status → List ℕ → History → Type 0
EndsUndrawn k b now h ReadFault text g = Fails k b now h text g
EndsUndrawn k b now h NoMemory text g = RunsOut (λ c. ⊥) h text g
EndsUndrawn k b now h _ text g = ⊥

abbrev pub EndsBy : Replier → List ℕ → ℕ → Option (List ℕ) → History → Status → List ℕ → History → Type 0
EndsBy k b now (Some w) h status text g = Ends k b now w h status text g
EndsBy k b now None h status text g = EndsUndrawn k b now h status text g

-- ---- the run

-- The message of the input is answered under the key file, which is the history's own; only its own change may be in doubt then.
pub record Takes (file input : List ℕ) (now : ℕ) (draw : Option (List ℕ)) (h : History) (status : Status) (text : List ℕ) (g : History) (e : Option Change) : Type 0 where
  pub own : IsOwnFile file h
  pub ends : EndsBy (replier_at file h) (message_in input) now draw h status text g
  pub doubt : IfSome e (OwnChange (replier_at file h) (message_in input) now draw h)

-- The one change that it may add.
abbrev pub IsTaken : List ℕ → List ℕ → ℕ → Option (List ℕ) → History → Change → Type 0
IsTaken file input now draw h c = OwnChange (replier_at file h) (message_in input) now draw h c

-- Why no message is answered: the key file gives no keys, and the input isn't read; or it does, and the input fails or memory runs out.
abbrev pub IsUnread : Devices → List ℕ → History → Status → List ℕ → Type 0
IsUnread devices file h status text =
    (TellsKeyFault devices.key.failed file h status text × devices.input.unread) ⊎ (IsOwnFile file h × IsCutShort devices.input.failed status text)

-- No message is answered, and nothing is changed: the disk has the history that was mounted, also after a stop.
pub record IsUntaken (disk : DiskRun) (devices : Devices) (file : List ℕ) (status : Status) (text : List ℕ) : Type 0 where
  pub history : History
  pub mounted : IfSome disk.content_before (λ f. IsAnswer f (Ok history))
  pub unchanged : IsUnchanged disk
  pub images : Every disk.images_after (λ f. Recovers f history)
  pub cause : IsUnread devices file history status text

-- A message is answered, at the one reading and by the one draw of the run; where no words were drawn, the entropy failed. Its octets
-- have a letter, so that what is said of each letter that they are is said of one.
pub record IsTakenRun (disk : DiskRun) (devices : Devices) (IsReading : ℕ → Type 0) (IsDraw : Option (List ℕ) → Type 0) (file input : List ℕ) (status : Status) (text : List ℕ) : Type 0 where
  pub now : ℕ
  pub reading : IsReading now
  pub draw : Option (List ℕ)
  pub drawn : IsDraw draw
  pub failed : status ≡ ReadFault → devices.entropy_failed
  pub letter : HasLetter (message_in input)
  pub changed : IsChanged disk (Takes file input now draw) (IsTaken file input now draw) status text

-- The disk isn't mounted, and nothing else is used: the input and the key file are as they were, and so are the clock and the entropy.
pub record IsUnused (disk : DiskRun) (devices : Devices) (status : Status) (text : List ℕ) : Type 0 where
  pub fault : TellsFault disk.content_before status text
  pub unchanged : IsUnchanged disk
  pub input : devices.input.unread
  pub key : devices.key.unread
  pub unused : devices.unused

-- The reply to take: the disk is not mounted; or it is, and no message is answered; or one is. Unless one is, neither the clock is
-- read nor words are drawn.
abbrev pub IsTakeReply : DiskRun → Devices → (ℕ → Type 0) → (Option (List ℕ) → Type 0) → List ℕ → List ℕ → Status → List ℕ → Type 0
IsTakeReply disk devices IsReading IsDraw input file status text =
    IsUnused disk devices status text
    ⊎ ((IsUntaken disk devices file status text × devices.unused) ⊎ IsTakenRun disk devices IsReading IsDraw file input status text)
