-- The same of a clerk that shares its desk. It had seen the history old before the call, and has seen the history new after it. What
-- others added stands between; the call begins with the history and the doubt that its turn finds.
use Rattle.std.specs.Prelude.{◌≡◌, ℕ, List, Option, None}
use Rattle.cmp_ports.specs.declared.order.Order.{Order}
use Rattle.deal_changes.specs.declared.change.Change.{Change}
use Rattle.deal_model.specs.declared.asking.Checked.{Checked}
use Rattle.deal_model.specs.Views.{History}
use Rattle.deal_model.specs.Rules.{Legal}
use Rattle.deal_table.specs.History.{Receipted, Begins}
use Rattle.deal_table.specs.Message.{Letter}
use Rattle.deal_table.specs.Table.{Makes, decision}
use Rattle.desk.specs.declared.answers.Lapsed.{Lapsed}
use Rattle.desk.specs.declared.answers.Ordered.{Ordered}
use Rattle.desk.specs.declared.verdict.Verdict.{Verdict}
use Rattle.desk.specs.declared.verdict.Verdict.TheVariants as verdict
use Rattle.desk.specs.Due.{event_time, IsLapse}
use Rattle.desk.specs.Calls.{IsOrder}
use Rattle.desk.specs.Clerks.{IsDecidedSince, IsLapsedSince, IsOrderedSince}
use Rattle.desk.specs.Verdicts.{Decides, LeftMakes}
use Rattle.desk_steps.specs.Steps.{adding, Lead, AreSteps}
use Rattle.desk_steps.specs.Calls.{IsCallBy, IsDecidedBy, lapse_adds, order_adds}

-- Each leads from the history and the doubt at its turn to those that it leaves, whatever its end. A decision's change is the one
-- that the table makes of each message which the Checked carries; of other ends the clerk's clause `verdict` tells the message's.
abbrev pub SharedDecidedIsSteps : Type 0
SharedDecidedIsSteps = (old new : History) (k : Checked) (now : ℕ) (words : List ℕ) (end : Verdict) → (x : IsDecidedSince old new k now words end)
    → ∥ AreSteps (IsDecidedBy x.doubt (LeftMakes x.before k now words) end) x.before x.doubt new x.left ∥₁

abbrev pub SharedMakesIsSteps : Type 0
SharedMakesIsSteps = (old new : History) (l : Letter) (k : Checked) (now : ℕ) (words : List ℕ) (r : Receipted) → Legal new → Decides l k old new now words (verdict.Done r)
    → (before : History) × Begins old before × (decision before l now words ≡ Makes r.change) × ((d : Option Change) → Lead before d (adding d r.change) new None)

abbrev pub SharedLapsedIsSteps : Type 0
SharedLapsedIsSteps = (old new : History) (now : ℕ) (end : Lapsed) → (x : IsLapsedSince old new now end)
    → ∥ AreSteps (IsCallBy x.doubt (IsLapse x.before (event_time x.before now)) (lapse_adds end)) x.before x.doubt new x.left ∥₁

abbrev pub SharedOrderedIsSteps : Type 0
SharedOrderedIsSteps = (old new : History) (order : Order) (now : ℕ) (end : Ordered) → (x : IsOrderedSince old new order now end)
    → ∥ AreSteps (IsCallBy x.doubt (IsOrder order (event_time x.before now)) (order_adds end)) x.before x.doubt new x.left ∥₁
