-- No frame begins another one, and each message is a frame.
use Rattle.std.proofs.Common.{inl, inr, ℕ, List, Ok, Err, refl}
use Rattle.pki_message.specs.Frame.{FrameForm, IsFrame, frame_of}
use Rattle.pki_message.specs.Message.{message_of, frame_in}
use Rattle.pki_message.proofs.FrameLemmas.{frame_begins_no_other}
use Rattle.pki_message.proofs.MessageLemmas.{message_frame}
use Rattle.cut_laws.specs.Cut.{IsAny, CutIsNeither, MessageReadersRefuse, FrameReadersRefuse}

-- a message is a frame
framed : (octets : List ℕ) → IsAny octets → (f : FrameForm) × IsFrame octets f
framed octets (inl m) = (frame_in m.0, message_frame octets m.0 m.1)
framed octets (inr f) = f

pub cut_is_neither : CutIsNeither
cut_is_neither part whole cut was is =
    let f = framed part is in
    let g = framed whole was in
    cut.some (frame_begins_no_other part whole cut.lost f.0 g.0 f.1 g.1 cut.all)

-- what is left is neither, so nobody who reads what is there reads it
pub left_message : MessageReadersRefuse
left_message bytes (Ok m) is left = absurd (cut_is_neither bytes left.whole left.cut left.was (inl (message_of m, is)))
left_message bytes (Err e) is left = refl

pub left_frame : FrameReadersRefuse
left_frame bytes (Ok f) is left = absurd (cut_is_neither bytes left.whole left.cut left.was (inr (frame_of f, is)))
left_frame bytes (Err e) is left = refl
