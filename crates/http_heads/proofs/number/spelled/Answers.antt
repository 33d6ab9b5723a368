-- At most nine digits, and one more.
use Rattle.std.proofs.Common.{arith, refl}
use Rattle.http_heads.proofs.NumberLemmas.{step}
use Rattle.http_heads.proofs.number.spelled.Goals as goal

pub overflow_mul-number : goal.overflow_mul-number
overflow_mul-number c =
    let s = step _ _ _ _ c.requires.few c.requires.digits c.loop-digit-test.true c.loop-digit.invariant refl in
    omega (arith, s.small)

pub overflow_add-number : goal.overflow_add-number
overflow_add-number c =
    let s = step _ _ _ _ c.requires.few c.requires.digits c.loop-digit-test.true c.loop-digit.invariant refl in
    omega (arith, s.small, s.high, c.from.ensures)

pub loop-digit-preserved : goal.loop-digit-preserved
loop-digit-preserved c =
    let s = step _ _ _ _ c.requires.few c.requires.digits c.loop-digit-test.true c.loop-digit.invariant refl in
    rw c.from.ensures s.more
