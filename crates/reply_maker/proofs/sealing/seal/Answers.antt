-- no message made the change
use Rattle.std.proofs.Common.{sym, ◌∙◌, ap}
use Rattle.std.specs.Option.{option_copied}
use Rattle.deal_changes.specs.Times.{stamp_of}
use Rattle.reply_maker.proofs.SealLemmas.{none_is}
use Rattle.reply_maker.proofs.sealing.seal.Goals as goal

pub returns-in-None : goal.returns-in-None
returns-in-None c =
    c.empty.ensures
    ∙ none_is c.args.keys.now.file c.args.keys.now.settings c.args.r.now
    (ap stamp_of (sym c.change.ensures) ∙ sym c.stamp.ensures ∙ ap option_copied c.in-None.is)
