-- The values so far are written.
use Rattle.std.proofs.Common.{◌≡◌, ℕ, ◌<◌, length}
use Rattle.lm_ots.specs.Runs.{Settled}
use Rattle.lm_ots.specs.Signatures.{y_of}
use Rattle.lm_ots.proofs.signature.values_in.Given as goal

abbrev pub invariant-loop-i : goal.invariant-loop-i
invariant-loop-i g l = record {
  size : length l.values ≡ g.row.P;
  values : (k : ℕ) → k < l.i → Settled (y_of l.sig) l.values k;
}
