-- Both plans begin at the time of the settings, and end with the year 9999; what is written is each plan's certificate.
use Rattle.std.proofs.Common.{refl, arith}
use Rattle.cert_maker.specs.Plans.{root_plan, reply_plan}
use Rattle.reply_maker.specs.Certificates.{root_of, reply_of}
use Rattle.reply_maker.proofs.certificates.certificates.Goals as goal

pub cert_of_plan-requires-clause-begins : goal.cert_of_plan-requires-clause-begins
unfolding root_plan
cert_of_plan-requires-clause-begins c = rw c.in_ok-root.ensures.planned (omega (arith, c.requires.time))

pub cert_of_plan-requires-clause-ends : goal.cert_of_plan-requires-clause-ends
unfolding root_plan
cert_of_plan-requires-clause-ends c = rw c.in_ok-root.ensures.planned (omega arith)

pub cert_of_plan-requires-2-clause-begins : goal.cert_of_plan-requires-2-clause-begins
unfolding reply_plan
cert_of_plan-requires-2-clause-begins c = rw c.in_ok-reply.ensures.planned (omega (arith, c.requires.time))

pub cert_of_plan-requires-2-clause-ends : goal.cert_of_plan-requires-2-clause-ends
unfolding reply_plan
cert_of_plan-requires-2-clause-ends c = rw c.in_ok-reply.ensures.planned (omega arith)

pub returns-clause-root : goal.returns-clause-root
unfolding root_of
returns-clause-root c = rw (c.in_ok-cert_of_plan.ensures.written, c.in_ok-root.ensures.planned, c.brief_of-brief.ensures) refl

pub returns-clause-reply : goal.returns-clause-reply
unfolding reply_of
returns-clause-reply c = rw (c.in_ok-cert_of_plan-2.ensures.written, c.in_ok-reply.ensures.planned, c.brief_of-brief.ensures) refl
