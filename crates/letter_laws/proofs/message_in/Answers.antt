-- what the reader finds it finds alone
use Rattle.pki_message.specs.Message.{message_of}
use Rattle.intake.proofs.Letters.{reading_is}
use Rattle.letter_laws.proofs.message_in.Goals as goal

pub returns-in-Ok-clause-one : goal.returns-in-Ok-clause-one
returns-in-Ok-clause-one c = reading_is c.args.bytes.now (message_of c.in-Ok.message) c.in-Ok.ensures.found c.in-Ok.ensures.only
