-- Octets are one message.
use Rattle.std.proofs.Common.{◌≡◌, ℕ, ◌+◌, ◌^◌, ◌<◌, ◌++◌, List, [], length, Option, Some, None, refl, sym, ap, subst, ◌∙◌, arith}
use Rattle.std.specs.Prelude.{option_map}
use Rattle.der_base.specs.Element.{element, IsElement}
use Rattle.der_base.proofs.ElementLemmas.{begins_no_other}
use Rattle.asn_fields.specs.Forms.{FitsOptional}
use Rattle.asn_fields.proofs.FieldLemmas.{some_same, none_some}
use Rattle.asn_types.specs.Template.{IsAnything, same}
use Rattle.asn_types.proofs.LengthLemmas.{length_element_lt}
use Rattle.pki_header.specs.Header.{HeadForm}
use Rattle.pki_message.specs.Body.{BodyForm, IsInside, tag_of, body_at}
use Rattle.pki_message.specs.Frame.{FrameForm}
use Rattle.pki_message.specs.Message.{MessageForm, IsMessage, frame_in}
use Rattle.pki_message.proofs.BodyLemmas.{body_again}
use Rattle.pki_message.proofs.MessageLemmas.{message_frame}
use Rattle.message_laws.specs.One.{OctetsAreOneMessage, MessageHasOneSpelling}
use Rattle.message_laws.proofs.Frames.{octets_are_one_frame}

-- ---- the body

in_one_tag : (a b : BodyForm) (inside : List ℕ) → tag_of a ≡ tag_of b → IsInside a inside → IsInside b inside → a ≡ b
in_one_tag a b inside tag is_a is_b =
    some_same a b (sym (body_again a inside is_a) ∙ ap (λ (n : ℕ). body_at n inside) tag ∙ body_again b inside is_b)

bodies_are_one : (octets c d : List ℕ) (a b : BodyForm) → IsElement octets (0xA0 + tag_of a) c → IsElement octets (0xA0 + tag_of b) d → tag_of a ≡ tag_of b → IsInside a c → IsInside b d → a ≡ b
bodies_are_one octets c d a b one two tag is_a is_b =
    let w = begins_no_other octets octets [] [] (0xA0 + tag_of a) (0xA0 + tag_of b) c d one two refl in
    in_one_tag a b d tag (subst (IsInside a) w.2 is_a) is_b

-- ---- the certificates

alone : (content : List ℕ) → length content < 2 ^ 32 → IsElement (element 0x30 content) 0x30 content
alone content low = record { low_tag = omega arith; counted = low; spelled = refl }

content_is_one : (c d : List ℕ) → length c < 2 ^ 32 → length d < 2 ^ 32 → element 0x30 c ≡ element 0x30 d → c ≡ d
content_is_one c d low high e =
    (begins_no_other (element 0x30 c) (element 0x30 d) [] [] 0x30 0x30 c d (alone c low) (alone d high) (ap (λ (l : List ℕ). l ++ []) e)).2

certificates_are_one : (a b : Option (List ℕ)) → FitsOptional same IsAnything (option_map (element 0x30) a) → FitsOptional same IsAnything (option_map (element 0x30) b) → option_map (element 0x30) a ≡ option_map (element 0x30) b → a ≡ b
certificates_are_one None None fits_a fits_b e = refl
certificates_are_one None (Some d) fits_a fits_b e = absurd (none_some (element 0x30 d) e)
certificates_are_one (Some c) None fits_a fits_b e = absurd (none_some (element 0x30 c) (sym e))
certificates_are_one (Some c) (Some d) fits_a fits_b e =
    let low : length c < 2 ^ 32 = omega (arith, fits_a.1, length_element_lt 0x30 c) in
    let high : length d < 2 ^ 32 = omega (arith, fits_b.1, length_element_lt 0x30 d) in
    ap Some (content_is_one c d low high (some_same (element 0x30 c) (element 0x30 d) e))

-- ---- the message

of_parts : HeadForm → Option ℕ → BodyForm → List ℕ → List ℕ → Option (List ℕ) → Option (List ℕ) → MessageForm
of_parts head time body header_bytes body_bytes protection extra = record { head = head; time = time; body = body; header_bytes = header_bytes; body_bytes = body_bytes; protection = protection; extra = extra }

same_parts : (h i : HeadForm) (s t : Option ℕ) (m n : BodyForm) (u v b c : List ℕ) (p q x y : Option (List ℕ)) → h ≡ i → s ≡ t → m ≡ n → u ≡ v → b ≡ c → p ≡ q → x ≡ y → of_parts h s m u b p x ≡ of_parts i t n v c q y
same_parts h i s t m n u v b c p q x y e f g k l o r = cc

message_is : (a b : MessageForm) → a.head ≡ b.head → a.time ≡ b.time → a.body ≡ b.body → a.header_bytes ≡ b.header_bytes → a.body_bytes ≡ b.body_bytes → a.protection ≡ b.protection → a.extra ≡ b.extra → a ≡ b
unfolding of_parts
message_is a b head time body header_bytes body_bytes protection extra = same_parts a.head b.head a.time b.time a.body b.body a.header_bytes b.header_bytes a.body_bytes b.body_bytes a.protection b.protection a.extra b.extra head time body header_bytes body_bytes protection extra

-- two messages of one frame are one
same_frame : (octets : List ℕ) (a b : MessageForm) → IsMessage octets a → IsMessage octets b → frame_in a ≡ frame_in b → a ≡ b
same_frame octets a b is_a is_b e =
    let bytes : b.body_bytes ≡ a.body_bytes = ap (λ (f : FrameForm). f.body_bytes) (sym e) in
    message_is a b
    (ap (λ (f : FrameForm). f.head) e)
    (ap (λ (f : FrameForm). f.time) e)
    (bodies_are_one a.body_bytes is_a.fits.inside is_b.fits.inside a.body b.body is_a.fits.body (subst (λ (l : List ℕ). IsElement l (0xA0 + tag_of b.body) is_b.fits.inside) bytes is_b.fits.body) (ap (λ (f : FrameForm). f.body_tag) e) is_a.fits.form is_b.fits.form)
    (ap (λ (f : FrameForm). f.header_bytes) e)
    (sym bytes)
    (ap (λ (f : FrameForm). f.protection) e)
    (certificates_are_one a.extra b.extra is_a.fits.frame.extra is_b.fits.frame.extra (ap (λ (f : FrameForm). f.extra) e))

pub octets_are_one_message : OctetsAreOneMessage
octets_are_one_message octets a b is_a is_b =
    same_frame octets a b is_a is_b (octets_are_one_frame octets (frame_in a) (frame_in b) (message_frame octets a is_a) (message_frame octets b is_b))

pub message_has_one_spelling : MessageHasOneSpelling
message_has_one_spelling a b m is_a is_b = is_a.alone.spelled ∙ sym is_b.alone.spelled
