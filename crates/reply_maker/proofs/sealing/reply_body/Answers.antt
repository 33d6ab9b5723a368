-- under the keys' own settings
use Rattle.std.proofs.Common.{ap}
use Rattle.deal_changes.specs.declared.change.Settings.{Settings}
use Rattle.reply_maker.proofs.SealLemmas.{polled_is}
use Rattle.reply_maker.proofs.sealing.reply_body.Goals as goal

pub returns-in-Polled-clause-written : goal.returns-in-Polled-clause-written
returns-in-Polled-clause-written c =
    polled_is c.polled_body.result c.args.keys.now.file c.args.keys.now.settings c.args.r.now c.args.c.now c.in-Polled.field-0 c.body_of-in-Polled.result c.settings.result.now.check_after
    c.in-Polled.is c.body_of-in-Polled.ensures (ap (λ (s : Settings). s.check_after) c.settings.ensures.same) c.polled_body.ensures.written
