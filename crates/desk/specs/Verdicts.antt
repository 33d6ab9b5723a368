-- How a message is decided that a Checked carries.
use Rattle.std.specs.Prelude.{◌≡◌, ◌⊎◌, ℕ, ◌≤◌, Bool, List, [], ◌∷◌, ◌++◌, length, Option, Some, None, IsSome, is_some}
use Rattle.deal_changes.specs.declared.change.Change.{Change}
use Rattle.deal_changes.specs.Times.{time_of_change}
use Rattle.deal_model.specs.declared.asking.Checked.{Checked}
use Rattle.deal_model.specs.Views.{History}
use Rattle.cmp_values.specs.declared.fail_info.FailInfo.{FailInfo}
use Rattle.deal_table.specs.History.{Receipted, Begins, event_time, receipt_at}
use Rattle.deal_table.specs.Message.{Letter, blind}
use Rattle.deal_table.specs.Table.{To, Makes, Repeats, Refuses, Asks, decision}
use Rattle.deal_table.specs.Carry.{left, IsStale, carried_to}
use Rattle.desk.specs.declared.verdict.Verdict.{Verdict}
use Rattle.desk.specs.declared.verdict.Verdict.TheVariants.{Done, Again, Refused, Stale, DiskFault, NoMemory}
use Rattle.desk.specs.Calls.{IsSame}

-- the event's place and its time
abbrev pub IsMoment : History → ℕ → ℕ → ℕ → Type 0
IsMoment h now place time = (place ≡ length h) × (time ≡ event_time h now)

-- the receipt of the last change, made behind the history at the event's time
pub record IsReceipt (before after : History) (now : ℕ) (r : Receipted) : Type 0 where
  pub grown : after ≡ before ++ r.change ∷ []
  pub time : time_of_change r.change ≡ event_time before now
  pub place : r.place ≡ length after
  pub receipt : receipt_at after (length after) ≡ Some r

-- ---- by the message

-- the change of the message was made, behind a history that begins with the old one
pub record IsDone (l : Letter) (old new : History) (now : ℕ) (w : List ℕ) (r : Receipted) : Type 0 where
  pub before : History
  pub begun : Begins old before
  pub decided : decision before l now w ≡ Makes r.change
  pub made : IsReceipt before new now r

-- How a message is decided by a clerk that had seen the old history and has seen the new one. A change is the one that the
-- table makes. All else is decided by the new history: a repetition with the receipt of what the message made; a refusal,
-- protected by the secret that is carried; and a certConf whose certHash has to be compared first, which comes only where
-- nobody has compared it, and names the place of the transaction's Grant.
abbrev pub Decides : Letter → Checked → History → History → ℕ → List ℕ → Verdict → Type 0
Decides l c old new now w (Done r) = IsDone l old new now w r
Decides l c old new now w (Again r place time) = (decision new l now w ≡ Repeats r.place) × (receipt_at new r.place ≡ Some r) × IsMoment new now place time
Decides l c old new now w (Refused fail place time is_guarded to_outer) = (decision new l now w ≡ Refuses fail (carried_to c to_outer is_guarded)) × IsMoment new now place time
Decides l c old new now w (Stale place) = (decision new (blind l) now w ≡ Asks place) × IsStale new c place
Decides l c old new now w DiskFault = Unit {0}
Decides l c old new now w NoMemory = Unit {0}

-- times are ones that a clock may say
abbrev pub IsInTime : Verdict → Type 0
IsInTime (Done r) = time_of_change r.change ≤ 250000000000
IsInTime (Again r place time) = time ≤ 250000000000
IsInTime (Refused fail place time is_guarded to_outer) = time ≤ 250000000000
IsInTime (Stale place) = Unit {0}
IsInTime DiskFault = Unit {0}
IsInTime NoMemory = Unit {0}

-- ---- by what is left of it

-- what is left makes this change
abbrev pub LeftMakes : History → Checked → ℕ → List ℕ → Change → Type 0
LeftMakes h k now w c = left h k now w ≡ Makes c

-- what is left is refused so, to the one or the other header, under a secret or not
abbrev pub LeftRefuses : History → Checked → ℕ → List ℕ → FailInfo → Bool → Bool → Type 0
LeftRefuses h k now w fail is_guarded to_outer = (to : To) × (left h k now w ≡ Refuses fail to) × (to.outer ≡ to_outer) × (is_some to.guard ≡ is_guarded)

-- How a desk decides what is left, from the history h and the change d in doubt before to those after, g and e. What was in
-- doubt is settled first, but where the disk or memory fails.
abbrev pub IsLeft : Checked → ℕ → List ℕ → History → Option Change → Verdict → History → Option Change → Type 0
IsLeft k now w h d (Done r) g e = LeftMakes h k now w r.change × IsReceipt h g now r × (e ≡ None)
IsLeft k now w h d (Again r place time) g e = (left h k now w ≡ Repeats r.place) × (receipt_at h r.place ≡ Some r) × IsMoment h now place time × IsSame h None g e
IsLeft k now w h d (Refused fail place time is_guarded to_outer) g e = LeftRefuses h k now w fail is_guarded to_outer × IsMoment h now place time × IsSame h None g e
IsLeft k now w h d (Stale place) g e = (left h k now w ≡ Asks place) × IsSame h None g e
IsLeft k now w h d DiskFault g e = (g ≡ h) × (((c : Change) × LeftMakes h k now w c × (e ≡ Some c)) ⊎ (IsSome d × (e ≡ d)))
IsLeft k now w h d NoMemory g e = IsSame h d g e
