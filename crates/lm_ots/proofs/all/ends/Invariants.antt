-- The chains of more steps were taken, and those of none are at their ends.
use Rattle.std.proofs.Common.{◌≡◌, ℕ, ◌<◌, length}
use Rattle.lm_ots.specs.Runs.{AreBelow, SettledOrWaiting, end_of, steps_of}
use Rattle.lm_ots.proofs.all.ends.Given as goal

abbrev pub decreases-lengths : goal.decreases-lengths
decreases-lengths l = l.steps

abbrev pub invariant-lengths : goal.invariant-lengths
invariant-lengths l = record {
  size : length l.values ≡ length l.fn.values;
  count : l.waiting.count < 4;
  below : AreBelow l.waiting.picks (length l.values);
  none : (x : ℕ) → x < length l.values → steps_of l.from l.to x ≡ 0
      → SettledOrWaiting (end_of l.id l.q l.from l.to l.starts) l.values l.waiting.picks l.waiting.count x;
  longer : (x : ℕ) → x < length l.values → l.steps < steps_of l.from l.to x
      → SettledOrWaiting (end_of l.id l.q l.from l.to l.starts) l.values l.waiting.picks l.waiting.count x;
}
