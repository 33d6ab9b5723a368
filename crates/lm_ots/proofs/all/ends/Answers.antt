-- The chains of no step are at their ends.
use Rattle.std.proofs.Common.{arith}
use Rattle.sha_lanes.proofs.LaneLemmas.{below_four}
use Rattle.lm_ots.proofs.FourLemmas.{no_step}
use Rattle.lm_ots.proofs.all.ends.Goals as goal

pub lengths-init : goal.lengths-init
lengths-init c =
    record {
      size = c.copy_from_slice.ensures.len;
      count = omega arith;
      below = below_four _ (omega arith) (omega arith) (omega arith) (omega arith);
      none = λ x within steps others. no_step _ _ _ _ _ _ x c.copy_from_slice.ensures.after steps;
      longer = λ x within more others. absurd (omega (arith, c.most_steps-steps.ensures x (omega arith)));
    }
