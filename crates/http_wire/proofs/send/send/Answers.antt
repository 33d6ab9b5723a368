-- Each piece is written behind those before it.
use Rattle.std.proofs.Common.{arith, rules}
use Rattle.std.proofs.KnownBytes.{Keeps-trans}
use Rattle.http_wire.proofs.StreamLemmas.{written_more}
use Rattle.http_wire.proofs.send.send.Goals as goal

pub loop-done-preserved : goal.loop-done-preserved
loop-done-preserved g c = record {
  within = omega (arith, c.in_ok-done.ensures.bound, c.split_at.ensures.back_len);
  written = let e = c.split_at.ensures.back in written_more _ _ _ _ _ _ c.loop-done.invariant.within c.loop-done.invariant.written
      (rw e at c.in_ok-done.ensures.bytes);
  left = Keeps-trans _ _ _ c.loop-done.invariant.left c.in_ok-done.ensures.left;
  gave = Keeps-trans _ _ _ c.loop-done.invariant.gave c.in_ok-done.ensures.gave;
  faults = search (rules, c.in_ok-done.ensures.cause.kept);
}
