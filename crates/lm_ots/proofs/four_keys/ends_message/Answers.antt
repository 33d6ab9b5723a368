-- The front and then each end are written.
use Rattle.std.proofs.Common.{◌≡◌, ℕ, ◌+◌, ◌*◌, ◌++◌, length, refl, subst, arith}
use Rattle.lm_ots.specs.Chains.{joined, prefix}
use Rattle.lm_ots.specs.Runs.{IsFilled}
use Rattle.lm_ots.proofs.PaddedLemmas.{filled_end, filled_front, length-prefix}
use Rattle.lm_ots.proofs.four_keys.ends_message.Goals as goal

pub loop-i-init : goal.loop-i-init
loop-i-init c = λ f are.
    let id = c.args.id.now in
    filled_front f _ _ (prefix id c.args.q 0x8080) refl (length-prefix id c.args.q 0x8080 (omega arith))
    (rw c.front_of.ensures at c.put.ensures)

pub loop-i-preserved : goal.loop-i-preserved
loop-i-preserved c = λ f are.
    filled_end f _ _ _ _ c.loop-i.i (c.loop-i.invariant f are) c.put_end.ensures.size (are c.loop-i.i (omega arith)) (omega arith) c.put_end.ensures.message

pub returns : goal.returns
returns c = λ f are.
    let done : c.loop-i.i ≡ length c.args.ends.now = omega arith in
    subst (λ (n : ℕ). IsFilled c.loop-i.message (prefix c.args.id.now c.args.q 0x8080 ++ joined f n) (22 + 32 * n)) done (c.loop-i.invariant f are)
