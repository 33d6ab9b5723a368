-- A chain of so many steps is taken, and nothing else is lost.
use Rattle.std.proofs.Common.{◌≡◌, arith, inl, inr}
use Rattle.std.proofs.lemmas.Bool.{cases_lt}
use Rattle.lm_ots.proofs.all.take_each.Goals as goal

pub loop-i-preserved : goal.loop-i-preserved
loop-i-preserved c = record {
  size = omega arith;
  count = c.take_if-next.ensures.count;
  below = λ k low. omega (arith, c.take_if-next.ensures.below k low);
  kept = λ x before. c.take_if-next.ensures.kept x (c.loop-i.invariant.kept x before);
  taken = λ x within steps. elim (cases_lt x c.loop-i.i) [
    | inl before ↦ c.take_if-next.ensures.kept x (c.loop-i.invariant.taken x before steps)
    | inr here ↦
        let same : x ≡ c.loop-i.i = omega arith in
        rw same (c.take_if-next.ensures.taken (rw same at steps))
  ];
}
