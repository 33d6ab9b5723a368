-- The digits so far are written.
use Rattle.std.proofs.Common.{◌≡◌, ℕ, ◌<◌, length, slice_index}
use Rattle.lms_params.specs.Digits.{coef_of}
use Rattle.lm_ots.proofs.signature.digits_in.Given as goal

abbrev pub invariant-loop-i : goal.invariant-loop-i
invariant-loop-i g l = record {
  size : length l.digits ≡ g.row.P;
  digits : (k : ℕ) → k < l.i → slice_index l.digits k ≡ coef_of l.octets k g.row.W;
}
