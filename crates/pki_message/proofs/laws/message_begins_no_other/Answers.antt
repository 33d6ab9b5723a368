-- as no frame does
use Rattle.pki_message.proofs.MessageLemmas.{message_begins_no_other}
use Rattle.pki_message.proofs.laws.message_begins_no_other.Goals as goal

pub returns : goal.returns
returns c = message_begins_no_other
