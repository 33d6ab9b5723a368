use Rattle.std.proofs.Common.{sym, subst}
use Rattle.std.specs.Prelude.{OnOk}
use Rattle.world_core.specs.declared.world.Step.{Step}
use Rattle.world_core.specs.declared.world.Step.TheVariants.{Sync}
use Rattle.world_core.specs.Steps.{Leads}
use Rattle.world_core.proofs.Runs.{ok_leads}
use Rattle.world_core.proofs.steps.apply.Goals as goal

-- the world after Sync is the one that the call leaves
pub returns-in-Sync-clause-leads : goal.returns-in-Sync-clause-leads
returns-in-Sync-clause-leads c = subst (λ (s : Step). OnOk c.sync.result (Leads c.args.w.now s c.sync.new.w)) (sym c.in-Sync.is) (ok_leads c.args.w.now Sync c.sync.new.w c.sync.result c.sync.ensures.applied)
