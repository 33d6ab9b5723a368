use Rattle.std.proofs.Common.{None, refl, arith}
use Rattle.std.specs.Option.{option_copied}
use Rattle.protect.proofs.BackLemmas.{headed, read_back}
use Rattle.protect.proofs.write.unprotected.Goals as goal

pub returns-clause-again : goal.returns-clause-again
returns-clause-again c = λ fits b whole certs.
    read_back c.write_message.result c.args.plan.now None c.as_slice.result.now c.args.body.now None (option_copied c.args.extra) None b c.write_message.ensures.message
    (headed c.args.plan.now None None c.in_ok-header.header c.as_slice.result.now refl c.as_slice.ensures c.in_ok-header.ensures.again)
    fits tt whole (omega arith) certs (omega (arith, c.requires.counted)) tt
