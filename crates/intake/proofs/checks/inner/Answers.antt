-- by what the reader finds
use Rattle.std.proofs.Common.{◌≡◌, Some}
use Rattle.pki_message.specs.Message.{message_of}
use Rattle.intake.proofs.WrapLemmas.{none_inside, formless_inside}
use Rattle.intake.proofs.checks.inner.Goals as goal

pub returns-in_default-clause-err : goal.returns-in_default-clause-err
returns-in_default-clause-err c = rw c.refused.ensures (none_inside c.args.inside.now c.args.sender.now.guarded c.in_default.ensures.one)

pub returns-in-Some-fault-clause-err : goal.returns-in-Some-fault-clause-err
returns-in-Some-fault-clause-err c = rw c.refused-in-Some-fault.ensures (formless_inside c.args.inside.now c.args.sender.now.guarded (message_of c.in-Some.message) c.in-Some-fault.fail c.in-Some.ensures.one c.in-Some-fault.ensures)

pub returns-clause-ok : goal.returns-clause-ok
returns-clause-ok c = record { found = c.in-Some.ensures.found; one = c.in-Some.ensures.one; header = c.in_default-fault.ensures }
