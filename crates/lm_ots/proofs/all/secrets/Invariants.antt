-- The values of the groups so far are written.
use Rattle.std.proofs.Common.{ℕ, ◌*◌, ◌<◌}
use Rattle.lm_ots.specs.Chains.{secret}
use Rattle.lm_ots.specs.Runs.{Settled}
use Rattle.lm_ots.proofs.all.secrets.Given as goal

abbrev pub invariant-loop-g : goal.invariant-loop-g
invariant-loop-g l = (x : ℕ) → x < 4 * l.g → x < l.count → Settled (secret l.seed l.id l.q) l.values x
