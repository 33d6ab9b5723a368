-- No chain so far has more steps.
use Rattle.std.proofs.Common.{ℕ, ◌<◌, ◌≤◌}
use Rattle.lm_ots.specs.Runs.{steps_of}
use Rattle.lm_ots.proofs.all.most_steps.Given as goal

abbrev pub invariant-loop-i : goal.invariant-loop-i
invariant-loop-i l = (x : ℕ) → x < l.i → steps_of l.from l.to x ≤ l.most
