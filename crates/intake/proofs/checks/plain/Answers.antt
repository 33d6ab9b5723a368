-- by what is checked of the message
use Rattle.std.proofs.Common.{refl}
use Rattle.pki_message.specs.Message.{message_of}
use Rattle.intake.proofs.PlainLemmas.{unfit_plain, whole_plain}
use Rattle.intake.proofs.checks.plain.Goals as goal

pub returns-in-Err-clause-err : goal.returns-in-Err-clause-err
returns-in-Err-clause-err c =
    let r = c.args.r.now in
    let m = message_of c.args.m.now in
    unfit_plain r.bytes.now m c.requires.one c.requires.found c.requires.header c.requires.alone r.ask r.echo r.outer_echo (r.made.plain m c.requires.found c.requires.alone) c.args.look.now
    c.what_a_look_tells.ensures.refuses c.what_a_look_tells.ensures.sends c.in-Err.unfit c.in-Err.ensures.err

pub returns-clause-ok : goal.returns-clause-ok
returns-clause-ok c =
    let r = c.args.r.now in
    let m = message_of c.args.m.now in
    rw c.assembled.ensures
    (whole_plain r.bytes.now m c.requires.one c.requires.found c.requires.header c.requires.alone r.ask r.echo r.outer_echo (r.made.plain m c.requires.found c.requires.alone) c.args.look.now
    c.in-Ok.subject c.in-Ok.ensures.ok c.what_a_look_tells.ensures.owner c.in-Ok.ensures.fits)
