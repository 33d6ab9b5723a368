-- The values so far stand behind what was there.
use Rattle.std.proofs.Common.{◌≡◌, ◌++◌}
use Rattle.lm_ots.specs.Chains.{joined}
use Rattle.lm_ots.specs.Runs.{value_in}
use Rattle.lm_ots.proofs.signature.append_values.Given as goal

abbrev pub invariant-loop-i : goal.invariant-loop-i
invariant-loop-i l = l.out ≡ l.fn.out ++ joined (value_in l.values) l.i
