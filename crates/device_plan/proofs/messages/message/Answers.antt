-- by the function that its octets are
use Rattle.std.proofs.Common.{None}
use Rattle.std.proofs.lemmas.Result.{IfOk-weaker}
use Rattle.protect.specs.Written.{algorithm_for, protection_for}
use Rattle.reply_maker.proofs.MessageLemmas.{message_is}
use Rattle.device_plan.proofs.messages.message.Goals as goal

pub returns : goal.returns
returns g c = IfOk-weaker c.protect_with.result _ _
    (λ octets h. message_is c.args.header.now c.args.body.now (algorithm_for c.args.how.now) (protection_for g.L.LeafSigner.signature c.args.how.now) None octets h)
    c.protect_with.ensures.made
