-- the message that was read says it
use Rattle.pki_message.specs.Message.{message_of}
use Rattle.device_hearing.proofs.HearingLemmas.{heard_by}
use Rattle.device_hearing.proofs.hearing.hear.Goals as goal

pub returns-in-Ok : goal.returns-in-Ok
returns-in-Ok c = heard_by c.args.listener.now c.args.octets.now (message_of c.in-Ok.m) c.said.result c.in-Ok.ensures.found c.said.ensures
