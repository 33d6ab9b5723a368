-- Octets are one frame.
use Rattle.std.proofs.Common.{◌≡◌, ℕ, List, Option, sym, subst, ◌∙◌}
use Rattle.asn_fields.proofs.FieldLemmas.{some_same}
use Rattle.pki_header.specs.Header.{HeadForm}
use Rattle.pki_header.specs.Time.{IsTimeOf}
use Rattle.pki_header.proofs.HeadLemmas.{head_reads}
use Rattle.pki_message.specs.Frame.{FrameForm, OutlineForm, IsFrameOf}
use Rattle.pki_message.proofs.FrameLemmas.{frame_outlined, frame_again}
use Rattle.message_laws.specs.One.{OctetsAreOneFrame}
use Rattle.message_laws.proofs.Times.{time_is_one}

of_parts : HeadForm → Option ℕ → List ℕ → ℕ → List ℕ → Option (List ℕ) → Option (List ℕ) → FrameForm
of_parts head time header_bytes body_tag body_bytes protection extra = record { head = head; time = time; header_bytes = header_bytes; body_tag = body_tag; body_bytes = body_bytes; protection = protection; extra = extra }

same_parts : (h i : HeadForm) (s t : Option ℕ) (u v : List ℕ) (m n : ℕ) (b c : List ℕ) (p q x y : Option (List ℕ)) → h ≡ i → s ≡ t → u ≡ v → m ≡ n → b ≡ c → p ≡ q → x ≡ y → of_parts h s u m b p x ≡ of_parts i t v n c q y
same_parts h i s t u v m n b c p q x y e f g k l o r = cc

frame_is : (a b : FrameForm) → a.head ≡ b.head → a.time ≡ b.time → a.header_bytes ≡ b.header_bytes → a.body_tag ≡ b.body_tag → a.body_bytes ≡ b.body_bytes → a.protection ≡ b.protection → a.extra ≡ b.extra → a ≡ b
unfolding of_parts
frame_is a b head time header_bytes body_tag body_bytes protection extra = same_parts a.head b.head a.time b.time a.header_bytes b.header_bytes a.body_tag b.body_tag a.body_bytes b.body_bytes a.protection b.protection a.extra b.extra head time header_bytes body_tag body_bytes protection extra

-- two frames of the same elements are one
frames_of : (o : OutlineForm) (a b : FrameForm) → IsFrameOf o a → IsFrameOf o b → a ≡ b
frames_of o a b x y =
    let head : a.head ≡ b.head = some_same a.head b.head (sym (head_reads o.header.content a.head x.head x.header) ∙ head_reads o.header.content b.head y.head y.header) in
    frame_is a b head
    (time_is_one b.head.time a.time b.time (subst (λ (h : HeadForm). IsTimeOf h.time a.time) head x.time) y.time)
    (x.header_bytes ∙ sym y.header_bytes)
    (x.body_tag ∙ sym y.body_tag)
    (x.body_bytes ∙ sym y.body_bytes)
    (x.protection ∙ sym y.protection)
    (x.extra ∙ sym y.extra)

pub octets_are_one_frame : OctetsAreOneFrame
octets_are_one_frame octets a b is_a is_b =
    let w = frame_outlined octets a is_a in
    frames_of w.o a b w.frame (frame_again octets w.o b w.read is_b).frame
