-- The world so far is the one that the steps so far leave.
use Rattle.std.proofs.Common.{take}
use Rattle.world_core.specs.Steps.{founded, Run}
use Rattle.world_core.proofs.run.world_law.Given as goal

abbrev pub invariant-loop-step : goal.invariant-loop-step
invariant-loop-step l = Run founded (take l.step-index l.steps) l.w
