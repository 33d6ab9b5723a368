-- Runs grow by a step, and the history that they leave tells no time that no clock may say.
use Rattle.std.proofs.Common.{◌≡◌, ℕ, Bool, true, false, List, [], ◌∷◌, ◌++◌, Result, Ok, Err, refl, subst, inl, inr}
use Rattle.std.specs.Prelude.{IfOk, OnOk}
use Rattle.deal_changes.specs.declared.change.Change.{Change}
use Rattle.deal_model.specs.Views.{History, AreTimely}
use Rattle.deal_model.specs.Rules.{AllowedFrom}
use Rattle.world_core.specs.declared.world.World.{World}
use Rattle.world_core.specs.declared.world.Step.{Step}
use Rattle.world_core.specs.Steps.{Leads, Run}
use Rattle.world_core.specs.Safety.{Safe}
use Rattle.world_core.specs.Applying.{Applied}

pub run_more : (w : World) (ss : List Step) (u : World) (s : Step) (v : World) → Run w ss u → Leads u s v → Run w (ss ++ s ∷ []) v
run_more w [] u s v run leads = (v, subst (λ (x : World). Leads x s v) run leads, refl)
run_more w (t ∷ ss) u s v run leads = (run.0, run.1, run_more run.0 ss u s v run.2 leads)

timely_from : (before cs : List Change) → AllowedFrom before cs → AreTimely cs
timely_from before [] each = tt
timely_from before (c ∷ cs) each = (each.0.bounded, timely_from (before ++ c ∷ []) cs each.1)

pub safe_timely : (w : World) → Safe w → AreTimely w.durable
safe_timely w safe = timely_from [] w.durable safe.legal.1

applied_leads : (w : World) (s : Step) (v : World) (taken : Bool) → Applied w s v taken → Leads w s v
applied_leads w s v true a = inl a
applied_leads w s v false a = inr a

-- what a step answers tells where it leads
pub ok_leads : {E : Type 0} (w : World) (s : Step) (v : World) (answer : Result Bool E) → IfOk answer (λ taken. Applied w s v taken) → OnOk answer (Leads w s v)
ok_leads w s v (Ok taken) a = applied_leads w s v taken a
ok_leads w s v (Err e) a = tt
