-- The verdict is by the frame that the octets are, or by there being none.
use Rattle.std.proofs.Common.{sym}
use Rattle.asn_fields.proofs.FieldLemmas.{none_some}
use Rattle.pki_message.specs.Frame.{frame_of}
use Rattle.cmpca_tool.proofs.CauseLemmas.{parts_bound, frame_told, no_frame_verdict}
use Rattle.cmpca_tool.proofs.check.check.Goals as goal

pub check_frame-requires : goal.check_frame-requires
check_frame-requires c = parts_bound c.args.input.now (frame_of c.in-Ok.frame) c.in-Ok.ensures.found

pub returns-in-Ok : goal.returns-in-Ok
returns-in-Ok c = frame_told c.params_are_spelled.ensures c.args.secret.now c.args.input.now (frame_of c.in-Ok.frame) _ c.in-Ok.ensures.found c.in-Ok.ensures.only c.check_frame.ensures

pub returns-in-Err : goal.returns-in-Err
returns-in-Err c = no_frame_verdict c.args.secret.now c.args.input.now (λ f is. none_some f (sym (c.in-Err.ensures.only f is)))
