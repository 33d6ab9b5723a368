use Rattle.message_laws.proofs.Times.{text_is_one_time}
use Rattle.message_laws.proofs.Frames.{octets_are_one_frame}
use Rattle.message_laws.proofs.Messages.{octets_are_one_message, message_has_one_spelling}
use Rattle.message_laws.proofs.laws.octets_are_one_message.Goals as goal

pub returns-clause-message : goal.returns-clause-message
returns-clause-message c = octets_are_one_message

pub returns-clause-spelling : goal.returns-clause-spelling
returns-clause-spelling c = message_has_one_spelling

pub returns-clause-frame : goal.returns-clause-frame
returns-clause-frame c = octets_are_one_frame

pub returns-clause-time : goal.returns-clause-time
returns-clause-time c = text_is_one_time
