-- by its parts
use Rattle.std.proofs.Common.{◌∙◌}
use Rattle.device_plan.proofs.MessageLemmas.{mac_said}
use Rattle.device_plan.proofs.messages.say_by_mac.Goals as goal

pub returns : goal.returns
returns c = λ sign.
    mac_said c.macked.result c.args.plan.now _ _ c.args.claim.now.key c.args.claim.now.proof sign c.args.deal.now c.args.speech.now c.args.turn.now.time c.args.turn.now.words c.in_ok-head.head c.as_slice.result.now c.salt_in.result
    c.in-Mac.is c.in_ok-head.ensures.written (c.as_slice.ensures ∙ c.in_ok-inside.ensures.written) c.salt_in.ensures c.macked.ensures
