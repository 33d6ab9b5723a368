-- by the laws of frames and of bodies
use Rattle.std.proofs.Common.{sym}
use Rattle.asn_fields.proofs.FieldLemmas.{none_some}
use Rattle.pki_message.specs.Frame.{frame_of}
use Rattle.pki_message.specs.Message.{frame_in}
use Rattle.pki_message.proofs.MessageLemmas.{message_frame, message_found, message_only}
use Rattle.pki_message.proofs.message.read_message.Goals as goal

pub returns-in_err-frame-clause-only : goal.returns-in_err-frame-clause-only
returns-in_err-frame-clause-only c = λ m is. absurd (none_some (frame_in m) (sym (c.in_err-frame.ensures.only (frame_in m) (message_frame c.args.bytes.now m is))))

pub returns-clause-found : goal.returns-clause-found
returns-clause-found c = message_found c.args.bytes.now (frame_of c.in_ok-frame.frame) c.framed_message.result c.in_ok-frame.ensures.found c.framed_message.ensures

pub returns-clause-only : goal.returns-clause-only
returns-clause-only c = λ m is. message_only c.args.bytes.now (frame_of c.in_ok-frame.frame) c.framed_message.result c.framed_message.ensures m is (c.in_ok-frame.ensures.only (frame_in m) (message_frame c.args.bytes.now m is))
