-- What a run of the program writes and how it ends, by its words, its input, its key file, the clock's reading, the words that were
-- drawn, which of these failed, and what its disk holds.
use Rattle.std.specs.Prelude.{ℕ, ◌≡◌, Ok, List, Option, Some, None, IfSome, codes, ◌⊎◌}
use Rattle.std.specs.Io.KnownBytes.{Appends}
use Rattle.cmp_ports.specs.declared.order.Order.{Order}
use Rattle.cmp_ports.specs.declared.order.Order.TheVariants as orders
use Rattle.cmp_ports.specs.Disk.{Every}
use Rattle.cmp_ports.specs.Whole.{AppendsPrefix}
use Rattle.deal_changes.specs.declared.change.Change.{Change}
use Rattle.deal_model.specs.Views.{History}
use Rattle.deal_model.specs.Rules.{Legal}
use Rattle.deal_lines.specs.Lines.{lines_of}
use Rattle.desk.specs.Images.{Recovers}
use Rattle.cmpca_tool.specs.Lines.{line}
use Rattle.cmpca_tool.specs.Sources.{SourceRun, Devices}
use Rattle.cmpca_tool.specs.Mounts.{IsAnswer, TellsFault}
use Rattle.cmpca_tool.specs.Changes.{DiskRun, IsUnchanged, Deed, IsChanged}
use Rattle.cmpca_tool.specs.Deeds.{IsCutShort, Enlists, IsFileListed, Dismisses, IsDismissedAt, Obeys, IsOrderedAt}
use Rattle.cmpca_tool.specs.Inits.{IsInitReply}
use Rattle.cmpca_tool.specs.Takes.{IsTakeReply}
use Rattle.cmpca_tool.specs.Causes.{IsSoleVerdict}
use Rattle.cmpca_tool.specs.declared.words.Command.{Command}
use Rattle.cmpca_tool.specs.declared.words.Command.TheVariants.{Verify, Init, Take, Show, Enlist, Dismiss, Release, Deny}
use Rattle.cmpca_tool.specs.declared.verdict.Verdict.{Verdict}
use Rattle.cmpca_tool.specs.declared.verdict.Verdict.TheVariants.{Verified, BadDataFormat, Unprotected, BadAlg, WrongMac}
use Rattle.cmpca_tool.specs.declared.status.Status.{Status}
use Rattle.cmpca_tool.specs.declared.status.Status.TheVariants.{Done, Refused, Usage, WriteFault}

-- the line that names the words
abbrev pub usage_line : List ℕ
usage_line = line (codes "usage: cmpca verify SECRET | JOURNAL KEY COMMAND")

-- ---- verify

-- the line that tells a verdict; a refusal has the name of its failInfo (RFC 9810, 5.2.3)
abbrev pub verdict_line : Verdict → List ℕ
verdict_line Verified = line (codes "protection verified")
verdict_line BadDataFormat = line (codes "refused badDataFormat")
verdict_line Unprotected = line (codes "refused badMessageCheck")
verdict_line BadAlg = line (codes "refused badAlg")
verdict_line WrongMac = line (codes "refused badMessageCheck")

-- how a run with this verdict ends
abbrev pub verdict_status : Verdict → Status
verdict_status Verified = Done
verdict_status BadDataFormat = Refused
verdict_status Unprotected = Refused
verdict_status BadAlg = Refused
verdict_status WrongMac = Refused

-- The status and the text are those of the verdict on the input under the secret: the verdict whose cause the input has,
-- and no other.
pub record TellsVerdict (secret input : List ℕ) (status : Status) (text : List ℕ) : Type 0 where
  pub verdict : Verdict
  pub is_verdict : IsSoleVerdict secret input verdict
  pub ends : status ≡ verdict_status verdict
  pub says : text ≡ verdict_line verdict

-- the text that ends so, for the input; a fault of reading, which has this cause, and want of memory come besides
abbrev pub IsVerifyReply : Type 0 → List ℕ → List ℕ → Status → List ℕ → Type 0
IsVerifyReply Failed secret input Done text = TellsVerdict secret input Done text
IsVerifyReply Failed secret input Refused text = TellsVerdict secret input Refused text
IsVerifyReply Failed secret input status text = IsCutShort Failed status text

-- ---- show

-- The status is that of a result, and the text has the lines of a legal history, which is the one that stands in the disk's
-- content where it is told, and to which each image of the disk recovers then: what was shown stays.
pub record TellsHistory (disk : DiskRun) (status : Status) (text : List ℕ) : Type 0 where
  pub history : History
  pub legal : Legal history
  pub mounted : IfSome disk.content_before (λ f. IsAnswer f (Ok history))
  pub images : Every disk.images_after (λ f. Recovers f history)
  pub ends : status ≡ Done
  pub says : text ≡ lines_of history

-- the reply to show
abbrev pub IsShowReply : DiskRun → Status → List ℕ → Type 0
IsShowReply disk status text = TellsHistory disk status text ⊎ TellsFault disk.content_before status text

-- ---- commands that change the history

-- the disk is not mounted, and nothing is changed; or the command acts on the history that is mounted
abbrev pub IsChangeReply : DiskRun → Deed → (History → Change → Type 0) → Status → List ℕ → Type 0
IsChangeReply disk Acts IsOwn status text = (TellsFault disk.content_before status text × IsUnchanged disk) ⊎ IsChanged disk Acts IsOwn status text

-- the same of enlist, which reads no octet of its input where the disk isn't mounted
abbrev pub IsEnlistReply : DiskRun → SourceRun → ℕ → List ℕ → Status → List ℕ → Type 0
IsEnlistReply disk inputs now file status text =
    (TellsFault disk.content_before status text × IsUnchanged disk × inputs.unread) ⊎ IsChanged disk (Enlists inputs.failed file now) (IsFileListed file now) status text

abbrev pub IsOrderReply : DiskRun → Order → List ℕ → ℕ → Status → List ℕ → Type 0
IsOrderReply disk order done now status text = IsChangeReply disk (Obeys order done now) (IsOrderedAt order now) status text

-- at the one reading that the clock gave in the run
abbrev pub AtReading : (ℕ → Type 0) → (ℕ → Type 0) → Type 0
AtReading IsReading P = (now : ℕ) × IsReading now × P now

-- ---- the run

-- The text that a run writes which ends with this status, for its command, what it makes of what it is lent, the clock's reading, the
-- draw, its disk, its input and its key file, where each write succeeds.
abbrev pub IsReply : Option Command → Devices → (ℕ → Type 0) → (Option (List ℕ) → Type 0) → DiskRun → List ℕ → List ℕ → Status → List ℕ → Type 0
IsReply None devices IsReading IsDraw disk input key status text = (status ≡ Usage) × (text ≡ usage_line)
IsReply (Some (Verify secret)) devices IsReading IsDraw disk input key status text = IsVerifyReply devices.input.failed secret input status text
IsReply (Some Init) devices IsReading IsDraw disk input key status text = AtReading IsReading (λ now. IsInitReply disk devices.input devices.key now input key status text)
IsReply (Some Take) devices IsReading IsDraw disk input key status text = IsTakeReply disk devices IsReading IsDraw input key status text
IsReply (Some Show) devices IsReading IsDraw disk input key status text = IsShowReply disk status text
IsReply (Some Enlist) devices IsReading IsDraw disk input key status text = AtReading IsReading (λ now. IsEnlistReply disk devices.input now input status text)
IsReply (Some (Dismiss kind id)) devices IsReading IsDraw disk input key status text = AtReading IsReading (λ now. IsChangeReply disk (Dismisses kind id now) (IsDismissedAt kind id now) status text)
IsReply (Some (Release tid)) devices IsReading IsDraw disk input key status text = AtReading IsReading (λ now. IsOrderReply disk (orders.Release tid) (line (codes "released")) now status text)
IsReply (Some (Deny tid)) devices IsReading IsDraw disk input key status text = AtReading IsReading (λ now. IsOrderReply disk (orders.Deny tid) (line (codes "denied")) now status text)

-- A text was written whole and the run ends as the text does; or a write failed, and some first octets were written.
abbrev pub Wrote : Option (List ℕ) → Option (List ℕ) → Status → List ℕ → Status → Type 0
Wrote old new reply text status = ((status ≡ reply) × Appends old new text) ⊎ ((status ≡ WriteFault) × AppendsPrefix old new text)

-- A run that ends with this status wrote a reply of this form to the sink, which held this before and after.
pub record Replied (IsForm : Status → List ℕ → Type 0) (old new : Option (List ℕ)) (status : Status) : Type 0 where
  pub reply : Status
  pub text : List ℕ
  pub is_reply : IsForm reply text
  pub wrote : Wrote old new reply text status

-- The same, where the form is by the input and the key file: what their sources had left, where they tell it.
pub record RanKeyed (left key_left : Option (List ℕ)) (IsForm : List ℕ → List ℕ → Status → List ℕ → Type 0) (old new : Option (List ℕ)) (status : Status) : Type 0 where
  pub input : List ℕ
  pub read : IfSome left (λ all. all ≡ input)
  pub key : List ℕ
  pub key_read : IfSome key_left (λ all. all ≡ key)
  pub replied : Replied (IsForm input key) old new status
