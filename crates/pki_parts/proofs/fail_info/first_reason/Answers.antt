-- the first reason that is found is the lowest one
use Rattle.std.proofs.Common.{ℕ, ◌≤◌, IsTrue, sym, subst, arith}
use Rattle.der_base.specs.Values.{bit_string_of}
use Rattle.cmp_values.specs.Reasons.{bit_of}
use Rattle.pki_parts.specs.FailInfo.{is_set}
use Rattle.pki_parts.proofs.FailLemmas.{from_next, none_set}
use Rattle.pki_parts.proofs.fail_info.first_reason.Goals as goal

pub loop-bit-init : goal.loop-bit-init
loop-bit-init c = λ fail h. omega arith

pub returns-in-Some : goal.returns-in-Some
returns-in-Some c =
    let found = (c.reason_at.ensures c.in-Some.fail).0 c.in-Some.is in (
      subst (λ (n : ℕ). IsTrue (is_set (bit_string_of c.args.bits.now) n)) (sym found.0) found.1,
      λ other h. subst (λ (n : ℕ). n ≤ bit_of other) (sym found.0) (c.loop-bit.invariant other h),
    )

pub loop-bit-preserved : goal.loop-bit-preserved
loop-bit-preserved c =
    from_next (bit_string_of c.args.bits.now) c.loop-bit.bit c.loop-bit.invariant
    (λ fail e h. c.in_default.not-Some fail ((c.reason_at.ensures fail).1 (e, h)))

pub returns : goal.returns
returns c = none_set (bit_string_of c.args.bits.now) c.loop-bit.bit c.loop-bit.invariant (omega (arith, c.loop-bit-test.false))
