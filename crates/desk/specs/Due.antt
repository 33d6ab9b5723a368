-- Which open certificate lapses next.
use Rattle.std.specs.Prelude.{◌≡◌, ℕ, ◌<◌, ◌≤◌, max, List, ◌∷◌, ◌++◌, Option, Some, None, IfSome, nat_le, if◌then◌else◌}
use Rattle.std.specs.List.{AllByRecursion}
use Rattle.deal_changes.specs.declared.change.Change.{Change}
use Rattle.deal_changes.specs.declared.change.Change.TheVariants.{Grant, Lapse}
use Rattle.deal_changes.specs.Times.{tid_of}
use Rattle.deal_model.specs.declared.states.DealState.{DealState}
use Rattle.deal_model.specs.declared.states.DealState.TheVariants.{Open}
use Rattle.deal_model.specs.Views.{History, time_of, transaction_state}
use Rattle.desk.specs.declared.due.Due.{Due}

-- the time of an event: the clock's reading, or that of the last change where it is later
abbrev pub event_time : History → ℕ → ℕ
event_time h now = max now (time_of h)

abbrev pub deadline_of : DealState → Option ℕ
deadline_of (Open serial deadline) = Some deadline
deadline_of _ = None

-- until when a granted certificate waits for its confirmation; None for one that doesn't, and for other changes
abbrev pub deadline_in : History → Change → Option ℕ
deadline_in h (Grant s b w serial leaf) = deadline_of (transaction_state h s.tid)
deadline_in h _ = None

-- no certificate of these waits until this time, or until an earlier one
abbrev pub AllAfter : History → ℕ → List Change → Type 0
AllAfter h time changes = AllByRecursion (λ c. IfSome (deadline_in h c) (λ d. time < d)) changes

-- none waits until an earlier time
abbrev pub AllFrom : History → ℕ → List Change → Type 0
AllFrom h time changes = AllByRecursion (λ c. IfSome (deadline_in h c) (λ d. time ≤ d)) changes

-- Of the certificates that these changes grant, the one of this transaction has the least deadline, and of equal ones it
-- was granted first.
pub record IsNext (h : History) (changes : List Change) (tid : List ℕ) (deadline : ℕ) : Type 0 where
  pub before : List Change
  pub grant : Change
  pub behind : List Change
  pub parts : changes ≡ before ++ grant ∷ behind
  pub waits : deadline_in h grant ≡ Some deadline
  pub named : tid_of grant ≡ Some tid
  pub later : AllAfter h deadline before
  pub no_sooner : AllFrom h deadline behind

-- none of these changes grants a certificate that waits
abbrev pub NoneWaits : History → List Change → Type 0
NoneWaits h changes = AllByRecursion (λ c. deadline_in h c ≡ None) changes

-- what was found among these changes
abbrev pub IsFoundNext : History → List Change → Option Due → Type 0
IsFoundNext h changes None = NoneWaits h changes
IsFoundNext h changes (Some due) = IsNext h changes due.tid due.deadline

-- the one that lapses first, of which the old one was granted first
abbrev pub sooner : Option Due → Option Due → Option Due
sooner old None = old
sooner None (Some new) = Some new
sooner (Some old) (Some new) = if nat_le old.deadline new.deadline then Some old else Some new

-- until when the certificate of a change waits, and its transaction
abbrev pub IsWaiting : History → Change → Option Due → Type 0
IsWaiting h c None = deadline_in h c ≡ None
IsWaiting h c (Some due) = (deadline_in h c ≡ Some due.deadline) × (tid_of c ≡ Some due.tid)

-- the certificate of this transaction is the next one, and its deadline has come
abbrev pub IsDue : History → ℕ → List ℕ → Type 0
IsDue h time tid = (deadline : ℕ) × IsNext h h tid deadline × (deadline ≤ time)

-- the change that takes it back
abbrev pub IsLapse : History → ℕ → Change → Type 0
IsLapse h time c = (tid : List ℕ) × IsDue h time tid × (c ≡ Lapse time tid)
