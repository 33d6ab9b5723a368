-- by what is checked of the messages
use Rattle.std.proofs.Common.{refl}
use Rattle.pki_message.specs.Message.{message_of}
use Rattle.intake.proofs.NestedLemmas.{unfit_around, unfit_inside, unfit_subject, whole_nested}
use Rattle.intake.proofs.checks.nested.Goals as goal

pub returns-in-Err-clause-err : goal.returns-in-Err-clause-err
returns-in-Err-clause-err c =
    let r = c.args.r.now in
    let m = message_of c.args.m.now in
    unfit_around r.bytes.now m c.requires.one c.requires.found c.requires.header c.args.inside.now c.requires.nested r.ask r.echo r.outer_echo (λ o reading. r.made.nested m c.args.inside.now o c.requires.found c.requires.nested reading) c.args.look.now
    c.what_a_look_tells.ensures.refuses c.what_a_look_tells.ensures.sends c.in-Err.unfit c.in-Err.ensures.err

pub returns-in-Err-inner-clause-err : goal.returns-in-Err-inner-clause-err
returns-in-Err-inner-clause-err c =
    let r = c.args.r.now in
    let m = message_of c.args.m.now in
    unfit_inside r.bytes.now m c.requires.one c.requires.found c.requires.header c.args.inside.now c.requires.nested r.ask r.echo r.outer_echo (λ o reading. r.made.nested m c.args.inside.now o c.requires.found c.requires.nested reading) c.args.look.now
    c.in-Ok.sender c.in-Ok.ensures.ok c.what_a_look_tells.ensures.refuses c.what_a_look_tells.ensures.sends c.in-Err-inner.unfit c.in-Err-inner.ensures.err

pub returns-in-Err-check_subject-clause-err : goal.returns-in-Err-check_subject-clause-err
returns-in-Err-check_subject-clause-err c =
    let r = c.args.r.now in
    let m = message_of c.args.m.now in
    unfit_subject r.bytes.now m c.requires.one c.requires.found c.requires.header c.args.inside.now c.requires.nested r.ask r.echo r.outer_echo (λ o reading. r.made.nested m c.args.inside.now o c.requires.found c.requires.nested reading) c.args.look.now
    c.in-Ok.sender c.in-Ok.ensures.ok (message_of c.in-Ok-inner.message) c.in-Ok-inner.ensures.ok c.what_a_look_tells.ensures.refuses c.what_a_look_tells.ensures.sends c.in-Err-check_subject.unfit c.in-Err-check_subject.ensures.err

pub returns-clause-ok : goal.returns-clause-ok
returns-clause-ok c =
    let r = c.args.r.now in
    let m = message_of c.args.m.now in
    rw c.assembled.ensures
    (whole_nested r.bytes.now m c.requires.one c.requires.found c.requires.header c.args.inside.now c.requires.nested r.ask r.echo r.outer_echo (λ o reading. r.made.nested m c.args.inside.now o c.requires.found c.requires.nested reading) c.args.look.now
    c.in-Ok.sender c.in-Ok.ensures.ok (message_of c.in-Ok-inner.message) c.in-Ok-inner.ensures.ok c.in-Ok-check_subject.subject c.in-Ok-check_subject.ensures.ok
    c.what_a_look_tells.ensures.owner c.what_a_look_tells.ensures.outer c.in-Ok-check_subject.ensures.fits)
