-- Each world on the way is safe, so the next step may be applied to it.
use Rattle.std.proofs.Common.{List, take, get_or, sym, subst}
use Rattle.std.proofs.lemmas.List.{take_more}
use Rattle.world_core.specs.declared.world.Step.{Step}
use Rattle.world_core.specs.Steps.{founded, Leads, Run}
use Rattle.world_core.proofs.Runs.{run_more, safe_timely}
use Rattle.world_core.proofs.run.world_law.Goals as goal

pub apply-requires : goal.apply-requires
apply-requires c = safe_timely c.loop-step.w (c.every_world_is_safe.ensures.safe (take c.loop-step.step-index c.args.steps.now) c.loop-step.w c.loop-step.invariant)

pub loop-step-preserved : goal.loop-step-preserved
loop-step-preserved c = subst (λ (ss : List Step). Run founded ss c.apply.new.w) (sym (take_more c.args.steps.now c.loop-step.step-index c.step-item.result c.loop-step-test.true)) (run_more founded (take c.loop-step.step-index c.args.steps.now) c.loop-step.w (get_or c.args.steps.now c.loop-step.step-index c.step-item.result) c.apply.new.w c.loop-step.invariant (subst (λ (s : Step). Leads c.loop-step.w s c.apply.new.w) c.step-item.is c.in_ok-apply.ensures.leads))

pub returns-clause-timely : goal.returns-clause-timely
returns-clause-timely c = safe_timely c.loop-step.w (c.every_world_is_safe.ensures.safe (take c.loop-step.step-index c.args.steps.now) c.loop-step.w c.loop-step.invariant)
