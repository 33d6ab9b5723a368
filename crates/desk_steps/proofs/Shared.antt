-- The calls of a clerk that shares its desk.
use Rattle.std.proofs.Common.{◌≡◌, [], ◌∷◌, ◌++◌, Option, None, sym, subst}
use Rattle.std.proofs.Math.Logic.{∥∥₁_map}
use Rattle.deal_changes.specs.declared.change.Change.{Change}
use Rattle.deal_model.specs.Views.{History}
use Rattle.deal_model.specs.Rules.{Allowed}
use Rattle.desk_steps.specs.Steps.{adding, Lead}
use Rattle.desk_steps.specs.Shared.{SharedDecidedIsSteps, SharedMakesIsSteps, SharedLapsedIsSteps, SharedOrderedIsSteps}
use Rattle.desk_steps.proofs.Leading.{added, last_allowed}
use Rattle.desk_steps.proofs.Calls.{decided_of, lapses_of, orders_of}

grown : (h g : History) (c : Change) → Allowed h c → g ≡ h ++ c ∷ [] → (d : Option Change) → Lead h d (adding d c) g None
grown h g c may same d = subst (λ (x : History). Lead h d (adding d c) x None) (sym same) (added h d c may)

pub shared_decided : SharedDecidedIsSteps
shared_decided old new k now words end x = ∥∥₁_map x.lawful (λ l. decided_of x.before new x.doubt x.left k now words end l x.decided)

pub shared_makes : SharedMakesIsSteps
shared_makes old new l k now words r legal done =
    (done.before, done.begun, done.decided, grown done.before new r.change (last_allowed done.before new r.change legal done.made.grown) done.made.grown)

pub shared_lapsed : SharedLapsedIsSteps
shared_lapsed old new now end x = ∥∥₁_map x.lawful (λ l. lapses_of x.before new x.doubt x.left _ end (λ _. l.1) x.lapsed)

pub shared_ordered : SharedOrderedIsSteps
shared_ordered old new order now end x = ∥∥₁_map x.lawful (λ l. orders_of x.before new x.doubt x.left order _ end (λ _. l.1) x.ordered)
