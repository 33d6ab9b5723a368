-- what is asked about a message inside another one
use Rattle.std.proofs.Common.{sym}
use Rattle.pki_message.specs.Message.{message_of}
use Rattle.intake.proofs.Letters.{nested_asks}
use Rattle.intake.proofs.asking.ask_of.Goals as goal

pub returns-in-Some-nested_in : goal.returns-in-Some-nested_in
returns-in-Some-nested_in c = nested_asks c.args.bytes.now (message_of c.in-Some.message) c.in-Some.ensures.one c.nested_request.result c.in-Some-nested_in.inside.now c.in_default-fault.ensures (sym c.in-Some-nested_in.ensures) c.nested_request.ensures.made c.nested_request.ensures.octets
