-- Of the chains so far those of so many steps were taken, and nothing else is lost.
use Rattle.std.proofs.Common.{◌≡◌, ℕ, ◌<◌, length}
use Rattle.lm_ots.specs.Runs.{AreBelow, SettledOrWaiting, end_of, steps_of}
use Rattle.lm_ots.proofs.all.take_each.Given as goal

abbrev pub invariant-loop-i : goal.invariant-loop-i
invariant-loop-i l = record {
  size : length l.values ≡ length l.fn.values;
  count : l.group.count < 4;
  below : AreBelow l.group.picks (length l.values);
  kept : (x : ℕ) → SettledOrWaiting (end_of l.run.id.now l.run.q l.run.from.now l.run.to.now l.run.starts.now) l.fn.values l.fn.waiting.picks l.fn.waiting.count x
      → SettledOrWaiting (end_of l.run.id.now l.run.q l.run.from.now l.run.to.now l.run.starts.now) l.values l.group.picks l.group.count x;
  taken : (x : ℕ) → x < l.i → steps_of l.run.from.now l.run.to.now x ≡ l.steps
      → SettledOrWaiting (end_of l.run.id.now l.run.q l.run.from.now l.run.to.now l.run.starts.now) l.values l.group.picks l.group.count x;
}
