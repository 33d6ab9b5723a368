-- by its parts
use Rattle.std.proofs.Common.{◌∙◌}
use Rattle.deal_table.specs.Message.{echoed}
use Rattle.reply_maker.specs.Guards.{secret_in}
use Rattle.reply_maker.proofs.MessageLemmas.{guarded_is}
use Rattle.reply_maker.proofs.refusals.guarded.Goals as goal

pub returns : goal.returns
returns c = guarded_is c.message.result c.args.name.now c.args.rounds (echoed c.args.echo.now) c.args.fail (secret_in c.args.guard.now) c.args.time c.args.words.now _ _ _
    c.in_ok-header.ensures.written (c.as_slice.ensures ∙ c.in_ok-body.ensures.written) c.salt_in.ensures c.message.ensures
