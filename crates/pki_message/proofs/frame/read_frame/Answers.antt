-- by the laws of the elements and of the header
use Rattle.pki_message.specs.Frame.{outline_of}
use Rattle.pki_message.proofs.FrameLemmas.{frame_found, frame_no, frame_again}
use Rattle.pki_message.proofs.frame.read_frame.Goals as goal

pub returns-in_err-outline-clause-only : goal.returns-in_err-outline-clause-only
returns-in_err-outline-clause-only c = λ f is. absurd (frame_no c.args.bytes.now f c.in_err-outline.ensures.exact is)

pub returns-clause-found : goal.returns-clause-found
returns-clause-found c = frame_found c.args.bytes.now (outline_of c.in_ok-outline.outline) c.framed.result c.in_ok-outline.ensures.exact c.framed.ensures.found

pub returns-clause-only : goal.returns-clause-only
returns-clause-only c = λ f is.
    let w = frame_again c.args.bytes.now (outline_of c.in_ok-outline.outline) f c.in_ok-outline.ensures.exact is in
    c.framed.ensures.only f w.tagged w.frame
