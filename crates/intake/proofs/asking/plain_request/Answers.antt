-- what is made is made of the one reading
use Rattle.pki_message.specs.Message.{message_of}
use Rattle.intake.proofs.MadeLemmas.{made_plain}
use Rattle.intake.proofs.asking.plain_request.Goals as goal

pub invariant_of-result : goal.invariant_of-result
invariant_of-result c =
    record {
      made = made_plain c.args.bytes.now (message_of c.args.message.now) c.ask_about-ask.result c.echo.result c.echo-2.result c.requires.one c.requires.found c.requires.header c.requires.alone
          (record { asked = c.ask_about-ask.ensures; echo_is = c.echo.ensures; outer_is = c.echo-2.ensures });
    }
