-- by its parts
use Rattle.std.proofs.Common.{◌∙◌}
use Rattle.std.specs.Option.{option_copied}
use Rattle.deal_table.specs.Message.{echoed}
use Rattle.reply_maker.proofs.MessageLemmas.{unprotected_is}
use Rattle.reply_maker.proofs.refusals.unprotected.Goals as goal

pub returns : goal.returns
returns c rounds = unprotected_is c.message.result c.args.name.now rounds (echoed c.args.echo.now) c.args.fail c.args.time (option_copied c.args.words) _ _
    c.in_ok-header.ensures.written (c.as_slice.ensures ∙ c.in_ok-body.ensures.written) c.message.ensures
