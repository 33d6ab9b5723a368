-- After i digits the sum is that of the first i terms.
use Rattle.std.proofs.Common.{◌≡◌, ◌-◌, ◌^◌}
use Rattle.lms_params.specs.Digits.{coef_of, sum_below}
use Rattle.lms_params.proofs.digits.checksum.Given as goal

abbrev pub invariant-loop-i : goal.invariant-loop-i
invariant-loop-i l = l.sum ≡ sum_below (λ i. 2 ^ l.w - 1 - coef_of l.q i l.w) l.i
