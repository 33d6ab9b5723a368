-- by its parts
use Rattle.device_plan.proofs.MessageLemmas.{signed_said}
use Rattle.device_plan.proofs.messages.say_signed.Goals as goal

pub returns : goal.returns
returns c = λ key proof sign d s now words is signs.
    signed_said c.with_sig.result c.args.plan.now c.in-Signed.cert key proof c.args.sig.now sign d s now words c.args.draft.now c.as_slice.result.now c.as_slice-2.result.now
    c.in-Signed.is is signs c.as_slice.ensures c.as_slice-2.ensures c.with_sig.ensures.written
