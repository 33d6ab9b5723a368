-- by the rows of a message that is about something, one behind the other
use Rattle.std.proofs.Common.{◌≡◌, sym, ◌∙◌, Some}
use Rattle.pki_message.specs.Message.{message_of}
use Rattle.intake.specs.Headers.{asks_implicit}
use Rattle.intake.specs.Letter.{facts_of}
use Rattle.intake.specs.Told.{about_told}
use Rattle.intake.proofs.SubjectLemmas.{none_of, back_served, back_sender, back_task, is_subject}
use Rattle.intake.proofs.subject.check_subject.Goals as goal

pub returns-then-not-is_served-clause-err : goal.returns-then-not-is_served-clause-err
returns-then-not-is_served-clause-err c = λ hashes bytes k checked.
    let m = message_of c.args.m.now in
    back_served c.args.look.now (facts_of hashes bytes (Some m) k) (none_of c.args.look.now.repeat (sym c.if-is_some.ensures)) (c.is_served.ensures hashes (asks_implicit m.head.info) k.is_proven ∙ c.if-not-is_served.true)

pub returns-in-Err-clause-err : goal.returns-in-Err-clause-err
returns-in-Err-clause-err c = λ hashes bytes k checked.
    let m = message_of c.args.m.now in
    back_sender c.args.look.now (facts_of hashes bytes (Some m) k) (none_of c.args.look.now.repeat (sym c.if-is_some.ensures)) (c.is_served.ensures hashes (asks_implicit m.head.info) k.is_proven ∙ c.if-not-is_served.false)
    c.in-Err.unfit (c.in-Err.ensures.err hashes bytes k checked)

pub returns-in-Err-task_of-clause-err : goal.returns-in-Err-task_of-clause-err
returns-in-Err-task_of-clause-err c = λ hashes bytes k checked.
    let m = message_of c.args.m.now in
    back_task c.args.look.now (facts_of hashes bytes (Some m) k) (none_of c.args.look.now.repeat (sym c.if-is_some.ensures)) (c.is_served.ensures hashes (asks_implicit m.head.info) k.is_proven ∙ c.if-not-is_served.false)
    c.in-Ok.sender (c.in-Ok.ensures.ok hashes bytes k checked) (about_told hashes k.is_proven c.about-about.result) (c.about-about.ensures.facts hashes k.is_proven checked.proven.0)
    c.in-Err-task_of.unfit (c.in-Err-task_of.ensures.err hashes k.is_proven)

pub returns-clause-ok : goal.returns-clause-ok
returns-clause-ok c = λ hashes bytes k checked.
    let m = message_of c.args.m.now in
    is_subject c.args.look.now (facts_of hashes bytes (Some m) k) (none_of c.args.look.now.repeat (sym c.if-is_some.ensures)) (c.is_served.ensures hashes (asks_implicit m.head.info) k.is_proven ∙ c.if-not-is_served.false)
    c.in-Ok.sender (c.in-Ok.ensures.ok hashes bytes k checked) (about_told hashes k.is_proven c.about-about.result) (c.about-about.ensures.facts hashes k.is_proven checked.proven.0)
    hashes c.in-Ok-task_of.task (c.in-Ok-task_of.ensures.ok hashes k.is_proven checked.proven)
