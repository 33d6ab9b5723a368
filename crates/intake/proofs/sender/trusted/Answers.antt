-- who sent it, and then its time
use Rattle.std.proofs.Common.{◌≡◌, sym, ◌∙◌, Some}
use Rattle.pki_message.specs.Message.{message_of}
use Rattle.deal_table.specs.Message.{Facts}
use Rattle.intake.specs.Letter.{facts_of}
use Rattle.intake.proofs.SenderLemmas.{back_proven, back_time, is_trusted}
use Rattle.intake.proofs.sender.trusted.Goals as goal

pub returns-in-Err-clause-err : goal.returns-in-Err-clause-err
returns-in-Err-clause-err c = λ hashes bytes k checked.
    back_proven c.args.standing.now c.args.outer (facts_of hashes bytes (Some (message_of c.args.m.now)) k) c.args.skew c.args.event c.in-Err.unfit (c.in-Err.ensures.refused hashes bytes k checked)

pub returns-then-is_apart-clause-err : goal.returns-then-is_apart-clause-err
returns-then-is_apart-clause-err c = λ hashes bytes k checked.
    let f : Facts = facts_of hashes bytes (Some (message_of c.args.m.now)) k in
    back_time c.args.standing.now c.args.outer f c.args.skew c.args.event c.in-Ok.sender (c.in-Ok.ensures.verified hashes bytes k checked) (sym c.is_apart.ensures ∙ c.if-is_apart.true)

pub returns-clause-ok : goal.returns-clause-ok
returns-clause-ok c = λ hashes bytes k checked.
    let f : Facts = facts_of hashes bytes (Some (message_of c.args.m.now)) k in
    is_trusted c.args.standing.now c.args.outer f c.args.skew c.args.event c.in-Ok.sender (c.in-Ok.ensures.verified hashes bytes k checked) (sym c.is_apart.ensures ∙ c.if-is_apart.false)
