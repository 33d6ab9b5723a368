-- What a run of serving does.
use Rattle.std.specs.Prelude.{◌≡◌, ◌⊎◌, ℕ, ◌*◌, List, length, Option, IfSome, Ok, codes}
use Rattle.cmp_links.specs.declared.door.Door as doors
use Rattle.cmp_links.specs.declared.link.Link as links
use Rattle.cmp_ports.specs.Disk.{Every}
use Rattle.cmp_ports.specs.declared.clock.Clock as clocks
use Rattle.cmp_ports.specs.declared.entropy.Entropy as entropies
use Rattle.cmp_ports.specs.declared.order.Order.{Order}
use Rattle.cmpca_tool.specs.Changes.{DiskRun, IsUnchanged}
use Rattle.cmpca_tool.specs.Lines.{line}
use Rattle.cmpca_tool.specs.Mounts.{IsAnswer, TellsFault}
use Rattle.cmpca_tool.specs.Reply.{usage_line}
use Rattle.cmpca_tool.specs.Takes.{IsOwnFile, TellsKeyFault, replier_at}
use Rattle.cmpca_tool.specs.declared.status.Status.{Status}
use Rattle.cmpca_tool.specs.declared.status.Status.TheVariants.{Done, Usage, ReadFault, DiskFault, NoMemory}
use Rattle.deal_changes.specs.declared.change.Change.{Change}
use Rattle.deal_model.specs.Views.{History}
use Rattle.desk.specs.Images.{Recovers}
use Rattle.reply_maker.specs.Replies.{Replier}
use Rattle.rounds.specs.declared.round.Round.{Round}
use Rattle.turnstile.specs.declared.view.View.{View}
use Rattle.workers.specs.Stations.{AllAttended}
use Rattle.workers.specs.declared.station.Station.{Station}
use Rattle.cmpca_serve.specs.Parts.{AreAll}
use Rattle.cmpca_serve.specs.Runs.{IsToldRun}
use Rattle.cmpca_serve.specs.Texts.{summary}
use Rattle.cmpca_serve.specs.Words.{Serves}
use Rattle.cmpca_serve.specs.declared.words.ServePlan.{ServePlan}

-- A run that served all: each worker at its station, and all sessions over the history h, which begins with h0; the changes gained are
-- those of the sessions and of the orders and lapses, and the text tells it.
pub record IsServedRun {S L C E G : Type 0} (ls : links.Ghosts L) (ds : doors.Ghosts S L) (cs : clocks.Ghosts C) (es : entropies.Ghosts E) (k : Replier) (h0 h : History) (plan : ServePlan) (stations stations_after : List (Station S C E G)) (old new : Option (List Order)) (before after : Option (ℕ → ℕ)) (text : List ℕ) : Type 0 where
  pub places : List ℕ
  pub workers : AllAttended ls ds cs es k h0 h plan.connections (Unit {0}) stations stations_after places
  pub told : IsToldRun h0 h places (plan.workers * plan.connections) old new before after text

-- What was done behind a turnstile tells a run, where the seat that is left, of this view, has the places of all changes that were gained.
pub record IsServedBehind {S L C E G : Type 0} (ls : links.Ghosts L) (ds : doors.Ghosts S L) (cs : clocks.Ghosts C) (es : entropies.Ghosts E) (k : Replier) (h0 : History) (v : View Change) (round : Round) (plan : ServePlan) (stations stations_after : List (Station S C E G)) (old new : Option (List Order)) (before after : Option (ℕ → ℕ)) : Type 0 where
  pub places : List ℕ
  pub workers : AllAttended ls ds cs es k h0 v.seen plan.connections (Unit {0}) stations stations_after places
  pub told : AreAll (length h0) (length v.seen) v.mine → IsToldRun h0 v.seen places (plan.workers * plan.connections) old new before after (summary (plan.workers * plan.connections) (length v.seen) round.done round.refused)

-- the reply that tells what was served; want of memory comes besides
abbrev pub IsSummaryReply : ServePlan → ℕ → Round → Status → List ℕ → Type 0
IsSummaryReply plan changes round status text =
    ((status ≡ Done) × (text ≡ summary (plan.workers * plan.connections) changes round.done round.refused)) ⊎ ((status ≡ NoMemory) × (text ≡ line (codes "no memory")))

-- the words ask for no serving
pub record IsUsage (words : List (List ℕ)) (status : Status) (text : List ℕ) : Type 0 where
  pub none : (plan : ServePlan) → Serves words plan → ⊥
  pub ends : status ≡ Usage
  pub says : text ≡ usage_line

-- The history is mounted, and the key file gives no keys under its settings; nothing is changed.
pub record IsKeyless (disk : DiskRun) (key_failed : Type 0) (file : List ℕ) (status : Status) (text : List ℕ) : Type 0 where
  pub history : History
  pub mounted : IfSome disk.content_before (λ f. IsAnswer f (Ok history))
  pub unchanged : IsUnchanged disk
  pub images : Every disk.images_after (λ f. Recovers f history)
  pub cause : TellsKeyFault key_failed file history status text

-- The history was mounted and served under its own keys: all of it was (IsServed, over the history before and the one after); or a door,
-- the orders, an entropy or the disk failed, or memory ran out.
abbrev pub IsServing : (History → History → List ℕ → Type 0) → History → History → Status → List ℕ → Type 0
IsServing IsServed h0 h Done text = IsServed h0 h text
IsServing IsServed h0 h ReadFault text = text ≡ line (codes "read fault")
IsServing IsServed h0 h DiskFault text = text ≡ line (codes "disk fault")
IsServing IsServed h0 h NoMemory text = text ≡ line (codes "no memory")
IsServing IsServed h0 h _ text = ⊥

pub record IsRunning (disk : DiskRun) (file : List ℕ) (IsServed : Replier → History → History → List ℕ → Type 0) (status : Status) (text : List ℕ) : Type 0 where
  pub opened : History
  pub closed : History
  pub mounted : IfSome disk.content_before (λ f. IsAnswer f (Ok opened))
  pub own : IsOwnFile file opened
  pub ends : IsServing (IsServed (replier_at file opened)) opened closed status text

-- The reply to serve. Where no history or no keys are had, nothing but the disk and the key file was used (unused).
abbrev pub IsServeReply : List (List ℕ) → DiskRun → Type 0 → Type 0 → Type 0 → List ℕ → (ServePlan → Replier → History → History → List ℕ → Type 0) → Status → List ℕ → Type 0
IsServeReply words disk key_unread key_failed unused file IsServed status text =
    (IsUsage words status text × IsUnchanged disk × key_unread × unused)
    ⊎ ((plan : ServePlan) × Serves words plan × (
    (TellsFault disk.content_before status text × IsUnchanged disk × key_unread × unused)
    ⊎ ((IsKeyless disk key_failed file status text × unused) ⊎ IsRunning disk file (IsServed plan) status text)))
