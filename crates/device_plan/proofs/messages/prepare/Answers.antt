-- by its parts
use Rattle.device_plan.proofs.MessageLemmas.{drafted}
use Rattle.device_plan.proofs.messages.prepare.Goals as goal

pub returns-clause-drafted : goal.returns-clause-drafted
returns-clause-drafted c =
    drafted c.args.plan.now c.args.claim.now.key c.args.claim.now.proof c.args.deal.now c.args.speech.now c.args.turn.now.time c.args.turn.now.words c.in_ok-head.head c.as_slice.result.now c.in_ok-inside.inside c.in_ok-unsigned.unsigned
    c.in_ok-head.ensures.written c.as_slice.ensures c.in_ok-inside.ensures.written c.in_ok-unsigned.ensures.planned c.in_ok-unsigned.ensures.part
