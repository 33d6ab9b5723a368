-- A run of the program as a visit of its disk: what it was asked, and which answers it gives.
use Rattle.std.specs.Prelude.{◌≡◌, ◌⊎◌, ℕ, false, List, [], ◌∷◌, Option, Some}
use Rattle.cmp_ports.specs.Coming.{Gives}
use Rattle.cmp_ports.specs.Disk.{Among, LeavesOnly}
use Rattle.cmp_ports.specs.declared.disk.Disk.{Ghosts}
use Rattle.cmp_ports.specs.declared.order.Order.TheVariants as orders
use Rattle.deal_changes.specs.declared.change.Change.{Change}
use Rattle.deal_model.specs.Views.{History}
use Rattle.deal_lines.specs.Lines.{lines_of}
use Rattle.journal_core.specs.declared.fault.MountFault.{MountFault}
use Rattle.reply_maker.specs.declared.key_file.KeyFault.{KeyFault}
use Rattle.signed_texts.specs.Laws.{Stands}
use Rattle.one_history.specs.Visits.{Ending, Finding, Holding, Visit, IsVisit}
use Rattle.one_history.specs.Causes.{Cause, Founding, Listing, Dismissal, Commanded, Message, Answer, Asked}
use Rattle.one_history.specs.Headline.{MayCause, AnswersRight}
use Rattle.cmpca_tool.specs.Changes.{run_of}
use Rattle.cmpca_tool.specs.Mounts.{fault_status, fault_line}
use Rattle.cmpca_tool.specs.Reply.{IsReply}
use Rattle.cmpca_tool.specs.Sources.{Devices, devices_of}
use Rattle.cmpca_tool.specs.Takes.{message_in, key_status, key_lines}
use Rattle.cmpca_tool.specs.Words.{changes_history}
use Rattle.cmpca_tool.specs.declared.status.Status.{Status}
use Rattle.cmpca_tool.specs.declared.status.Status.TheVariants.{Done}
use Rattle.cmpca_tool.specs.declared.words.Command.{Command}
use Rattle.cmpca_tool.specs.declared.words.Command.TheVariants.{Init, Take, Show, Enlist, Dismiss, Release, Deny}

-- ---- what a run was asked

-- What a command may make of a history comes of this, at the one reading of the clock: of the key file and the settings; of the
-- credentials; of the dismissal; of the order; of the message and the words that were drawn, where it is answered.
abbrev pub AreCauses : (ℕ → Type 0) → (Option (List ℕ) → Type 0) → List ℕ → List ℕ → Option Command → List (Cause × ℕ) → Type 0
AreCauses IsReading IsDraw input key (Some Init) causes = (now : ℕ) × IsReading now × (causes ≡ (Founding key input, now) ∷ [])
AreCauses IsReading IsDraw input key (Some Enlist) causes = (now : ℕ) × IsReading now × (causes ≡ (Listing input, now) ∷ [])
AreCauses IsReading IsDraw input key (Some (Dismiss kind id)) causes = (now : ℕ) × IsReading now × (causes ≡ (Dismissal kind id, now) ∷ [])
AreCauses IsReading IsDraw input key (Some (Release tid)) causes = (now : ℕ) × IsReading now × (causes ≡ (Commanded (orders.Release tid), now) ∷ [])
AreCauses IsReading IsDraw input key (Some (Deny tid)) causes = (now : ℕ) × IsReading now × (causes ≡ (Commanded (orders.Deny tid), now) ∷ [])
AreCauses IsReading IsDraw input key (Some Take) causes =
    (causes ≡ []) ⊎ ((now : ℕ) × (words : List ℕ) × IsReading now × IsDraw (Some words) × (causes ≡ (Message key (message_in input) words, now) ∷ []))
AreCauses IsReading IsDraw input key _ causes = causes ≡ []

-- ---- which answers it gives

-- The text is the answer to the message of the input, under the key file.
pub record IsAnswerTo (input file text : List ℕ) (a : Answer) : Type 0 where
  pub key : a.key ≡ file
  pub octets : a.octets ≡ message_in input
  pub reply : a.reply ≡ text

-- No message is answered: status and text say why the disk isn't mounted, or why there are no keys; or that the input failed or memory
-- ran out, in the same words.
abbrev pub IsUnanswered : Status → List ℕ → Type 0
IsUnanswered status text = ((f : MountFault) × (status ≡ fault_status f) × (text ≡ fault_line f)) ⊎ ((f : KeyFault) × (status ≡ key_status f) × (text ≡ key_lines f))

-- take gives one answer, or says why it gives none; the other commands answer no message
abbrev pub AreAnswers : List ℕ → List ℕ → Status → List ℕ → Option Command → List Answer → Type 0
AreAnswers input key status text (Some Take) answers = ((a : Answer) × IsAnswerTo input key text a × (answers ≡ a ∷ [])) ⊎ (IsUnanswered status text × (answers ≡ []))
AreAnswers input key status text _ answers = answers ≡ []

-- what is acknowledged was made: a founding, a listing, a dismissal and an order that are told as done are one change each
abbrev pub Acknowledges : Status → Option Command → List Change → Type 0
Acknowledges status (Some Init) made = status ≡ Done → (c : Change) × (made ≡ c ∷ [])
Acknowledges status (Some Enlist) made = status ≡ Done → (c : Change) × (made ≡ c ∷ [])
Acknowledges status (Some (Dismiss kind id)) made = status ≡ Done → (c : Change) × (made ≡ c ∷ [])
Acknowledges status (Some (Release tid)) made = status ≡ Done → (c : Change) × (made ≡ c ∷ [])
Acknowledges status (Some (Deny tid)) made = status ≡ Done → (c : Change) × (made ≡ c ∷ [])
Acknowledges status _ made = Unit {0}

-- what is shown was found: the text has the lines of the history that the run found
abbrev pub Shows : Status → List ℕ → Option Command → Finding → Type 0
Shows status text (Some Show) finding = status ≡ Done → (h : History) × (finding ≡ Holding h) × (text ≡ lines_of h)
Shows status text _ finding = Unit {0}

-- ---- the run

-- What the contract of `run_tool` says of a run: the reply that it is about to write, and that a command which doesn't change the
-- history leaves the disk as it was.
pub record Ran {D : Type 0} (g : Ghosts D) (old new : D) (devices : Devices) (IsReading : ℕ → Type 0) (IsDraw : Option (List ℕ) → Type 0) (command : Option Command) (input key : List ℕ) (status : Status) (text : List ℕ) : Type 0 where
  pub reply : IsReply command devices IsReading IsDraw (run_of g.content g.images g.moment g.left_since old new) input key status text
  pub same : changes_history command ≡ false → g.content new ≡ g.content old
  pub crash : changes_history command ≡ false → Among (g.images old) (g.images new)
  pub moments : changes_history command ≡ false → LeavesOnly g.moment g.left_since old new (g.images old)

-- The run is a visit of the disk, which ends so: it makes what its command asks for, and where it answers or shows, it goes on from a
-- history that it found; its answers are right by that one.
pub record IsRun {D : Type 0} (g : Ghosts D) (old new : D) (IsReading : ℕ → Type 0) (IsDraw : Option (List ℕ) → Type 0) (command : Option Command) (input key : List ℕ) (status : Status) (text : List ℕ) (ending : Ending) : Type 0 where
  pub visit : Visit D Asked
  pub from : visit.old ≡ old
  pub to : visit.new ≡ new
  pub ends : visit.ending ≡ ending
  pub is : IsVisit g (MayCause visit.asked) visit
  pub found : (a : Answer) → Stands a visit.asked.answers → (h : History) × (visit.finding ≡ Holding h)
  pub right : AnswersRight visit
  pub causes : AreCauses IsReading IsDraw input key command visit.asked.causes
  pub answers : AreAnswers input key status text command visit.asked.answers
  pub acknowledged : Acknowledges status command visit.made
  pub shown : Shows status text command visit.finding

-- On a disk that tells what it holds each run of the program is such a visit, however it ends: a run that is stopped is the one that
-- would have come to its end, with another ending.
abbrev pub EveryRunIsAVisit : {D S K C E : Type 0} → Ghosts D → (S → ℕ) → (K → ℕ) → (E → ℕ) → (C → Option (ℕ → ℕ)) → (E → Option (ℕ → Option (List ℕ))) → Type 0
EveryRunIsAVisit {D} {S} {K} {C} {E} g input_faults key_faults entropy_faults readings draws =
    (old new : D) (i j : S) (k l : K) (c d : C) (e f : E) (command : Option Command) (content input key : List ℕ) (status : Status) (text : List ℕ) (ending : Ending) → g.content old ≡ Some content
    → Ran g old new (devices_of input_faults key_faults entropy_faults i j k l c d e f) (Gives (readings c) (readings d)) (Gives (draws e) (draws f)) command input key status text
    → IsRun g old new (Gives (readings c) (readings d)) (Gives (draws e) (draws f)) command input key status text ending
