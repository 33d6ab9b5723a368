-- What is to be done of a message that was checked, before anything is written.
use Rattle.std.specs.Prelude.{◌≡◌, ◌⊎◌, ℕ, suc, List, [], ◌∷◌, ◌++◌, length, Option, Some, None, IsSome}
use Rattle.deal_changes.specs.declared.change.Change.{Change}
use Rattle.deal_model.specs.declared.asking.Checked.{Checked}
use Rattle.deal_model.specs.Views.{History}
use Rattle.deal_model.specs.Rules.{Allowed}
use Rattle.deal_table.specs.History.{Receipted, event_time, receipt_in, receipt_at}
use Rattle.deal_table.specs.Table.{Repeats, Asks}
use Rattle.deal_table.specs.Carry.{left}
use Rattle.desk.specs.declared.deciding.Plan.{Plan}
use Rattle.desk.specs.declared.deciding.Plan.TheVariants as plans
use Rattle.desk.specs.declared.verdict.Verdict.{Verdict}
use Rattle.desk.specs.declared.verdict.Verdict.TheVariants.{Done, Again, Refused, Stale, DiskFault, NoMemory}
use Rattle.desk.specs.Calls.{IsSame}
use Rattle.desk.specs.Verdicts.{LeftMakes, LeftRefuses}

-- the receipt of the change, once it stands behind the history
abbrev pub WillHave : History → Change → Receipted → Type 0
WillHave h c r = receipt_in (h ++ c ∷ []) (suc (length h)) c ≡ Some r

-- what is left of the message asks for this
abbrev pub IsPlan : History → Checked → ℕ → List ℕ → Plan → Type 0
IsPlan h k now w (plans.Make c r) = LeftMakes h k now w c × WillHave h c r
IsPlan h k now w (plans.Repeat r) = (left h k now w ≡ Repeats r.place) × (receipt_at h r.place ≡ Some r)
IsPlan h k now w (plans.Refuse fail is_guarded to_outer) = LeftRefuses h k now w fail is_guarded to_outer
IsPlan h k now w (plans.Ask place) = left h k now w ≡ Asks place

-- a change that is to be made may come next
abbrev pub IsReady : History → Plan → Type 0
IsReady h (plans.Make c r) = Allowed h c
IsReady h (plans.Repeat r) = Unit {0}
IsReady h (plans.Refuse fail is_guarded to_outer) = Unit {0}
IsReady h (plans.Ask place) = Unit {0}

-- the change is the plan's
abbrev pub IsPlanned : Plan → Change → Type 0
IsPlanned (plans.Make c r) x = x ≡ c
IsPlanned (plans.Repeat r) x = ⊥
IsPlanned (plans.Refuse fail is_guarded to_outer) x = ⊥
IsPlanned (plans.Ask place) x = ⊥

-- The change is made, and the receipt is its own; or the disk or memory fails.
abbrev pub IsMade : History → Option Change → Change → Receipted → Verdict → History → Option Change → Type 0
IsMade h d c r (Done made) g e = (made ≡ r) × (g ≡ h ++ c ∷ []) × (e ≡ None)
IsMade h d c r (Again again place time) g e = ⊥
IsMade h d c r (Refused fail place time is_guarded to_outer) g e = ⊥
IsMade h d c r (Stale place) g e = ⊥
IsMade h d c r DiskFault g e = (g ≡ h) × ((e ≡ Some c) ⊎ (IsSome d × (e ≡ d)))
IsMade h d c r NoMemory g e = IsSame h d g e

-- The verdict is told and nothing is in doubt; or the disk fails, and what was in doubt still is.
abbrev pub IsTold : History → Option Change → Verdict → Verdict → History → Option Change → Type 0
IsTold h d told result g e = ((result ≡ told) × IsSame h None g e) ⊎ ((result ≡ DiskFault) × IsSome d × IsSame h d g e)

-- how the plan ends, at the clock's reading
abbrev pub IsFollowed : History → Option Change → ℕ → Plan → Verdict → History → Option Change → Type 0
IsFollowed h d now (plans.Make c r) result g e = IsMade h d c r result g e
IsFollowed h d now (plans.Repeat r) result g e = IsTold h d (Again r (length h) (event_time h now)) result g e
IsFollowed h d now (plans.Refuse fail is_guarded to_outer) result g e = IsTold h d (Refused fail (length h) (event_time h now) is_guarded to_outer) result g e
IsFollowed h d now (plans.Ask place) result g e = IsTold h d (Stale place) result g e
