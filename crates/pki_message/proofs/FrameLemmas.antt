-- Frames are read exactly where they are spelled.
use Rattle.std.proofs.Common.{◌≡◌, ℕ, ◌+◌, ◌-◌, ◌^◌, ◌<◌, ◌≤◌, ◌++◌, ◌&&◌, Bool, true, false, cond, eqb, ltb, leb, List, [], ◌∷◌, length, Option, Some, None, Result, Ok, Err, IfOk, append-nil, eqb-true, ltb-false, leb-true, le-ltb, length-append, refl, sym, ap, subst, ◌∙◌, arith}
use Rattle.std.proofs.lemmas.Bool.Decides.{nat_tests}
use Rattle.der_base.specs.Element.{element, IsElement}
use Rattle.der_base.specs.Reading.{Part, part, element_at}
use Rattle.der_base.specs.declared.fault.DerFault.{DerFault}
use Rattle.der_base.proofs.ElementLemmas.{IsTaken, element_takes, element_reads, begins_no_other}
use Rattle.der_base.proofs.LengthLemmas.{and_parts}
use Rattle.asn_fields.specs.Fields.{◌>>=◌, ok_of, field_at, sole_at, optional_with}
use Rattle.asn_fields.specs.Forms.{IsRead, IsField, Above, optional_spelling, FitsOptional}
use Rattle.asn_fields.specs.declared.fault.BadForm.{BadForm}
use Rattle.asn_fields.proofs.FieldLemmas.{IsTagged, none_some, some_same, bound, passed, field_takes, field_again, sole_takes, sole_reads, optional_field}
use Rattle.asn_types.specs.Key.{plain_bits_at}
use Rattle.asn_types.specs.Template.{IsAnything, same, anything_at}
use Rattle.asn_types.proofs.ValueLemmas.{ok_is, plain_bits_takes, plain_bits_again}
use Rattle.asn_parts.proofs.PartLemmas.{anything_is_read}
use Rattle.pki_header.specs.Header.{head_content}
use Rattle.pki_message.specs.Frame.{FrameForm, bits_spelling, FitsBits, parts_content, frame_content, message_limit, IsFrame, FrameBeginsNoOther, frame_of, OutlineForm, tagged_body, body_front_at, bits_alone_at, outline_at, outline_alone_at, IsFrameOf}
use Rattle.pki_message.specs.declared.frame.Frame.{Frame}

-- a BIT STRING of whole octets
bits_by : (bytes octets : List ℕ) (p : Part) → IsTagged 0x03 bytes p [] → p.content ≡ 0 ∷ octets → FitsBits octets × (bytes ≡ bits_spelling octets)
bits_by bytes octets p t e =
    let counted : length (0 ∷ octets) < 2 ^ 32 = subst (λ (l : List ℕ). length l < 2 ^ 32) e t.element_is.counted in
    (omega (arith, counted), t.parts ∙ append-nil p.whole ∙ t.element_is.spelled ∙ ap (element 0x03) e)

bits_takes : (bytes octets : List ℕ) → bits_alone_at bytes ≡ Some octets → FitsBits octets × (bytes ≡ bits_spelling octets)
unfolding bits_alone_at
bits_takes bytes octets e =
    bound (FitsBits octets × (bytes ≡ bits_spelling octets)) (sole_at 0x03 bytes) plain_bits_at octets e (λ p read got.
    bits_by bytes octets p (sole_takes 0x03 bytes p read) (plain_bits_takes p octets got).1)

bits_again : (octets : List ℕ) → FitsBits octets → bits_alone_at (bits_spelling octets) ≡ Some octets
unfolding bits_alone_at
bits_again octets fits =
    let is : IsElement (bits_spelling octets) 0x03 (0 ∷ octets) = record { low_tag = omega arith; counted = omega (arith, fits); spelled = refl } in
    ap (λ (q : Option Part). q >>= plain_bits_at) (sole_reads 0x03 (bits_spelling octets) (0 ∷ octets) is) ∙ plain_bits_again octets

bits_are_read : IsRead bits_alone_at bits_spelling FitsBits
bits_are_read = record { takes = bits_takes; again = bits_again }

protection_field : IsField (optional_with bits_alone_at 0xA0) 0xA0 bits_spelling FitsBits
protection_field = optional_field bits_alone_at 0xA0 bits_spelling FitsBits (omega arith) bits_are_read

extra_field : IsField (optional_with anything_at 0xA1) 0xA1 same IsAnything
extra_field = optional_field anything_at 0xA1 same IsAnything (omega arith) anything_is_read

-- a body at the front
record IsBodyFront (bytes : List ℕ) (p : Part) (rest : List ℕ) : Type 0 where
  element_is : IsElement p.whole (0xA0 + (p.tag - 0xA0)) p.content
  parts : bytes ≡ p.whole ++ rest
  alternative : p.tag - 0xA0 ≤ 26

body_by : (bytes : List ℕ) (p : Part) (rest : List ℕ) → IsTaken bytes p rest → 0xA0 ≤ p.tag → p.tag ≤ 0xBA → IsBodyFront bytes p rest
body_by bytes p rest t low high =
    let tag_is : p.tag ≡ 0xA0 + (p.tag - 0xA0) = omega (arith, low) in
    record { element_is = subst (λ (n : ℕ). IsElement p.whole n p.content) tag_is t.element_is; parts = t.parts; alternative = omega (arith, high) }

body_takes : (bytes : List ℕ) (p : Part) (rest : List ℕ) → body_front_at bytes ≡ Some (p, rest) → IsBodyFront bytes p rest
unfolding body_front_at
body_takes bytes p rest e =
    bound (IsBodyFront bytes p rest) (ok_of (element_at bytes)) tagged_body (p, rest) e (λ r read test.
    passed (IsBodyFront bytes p rest) (leb 0xA0 r.0.tag && leb r.0.tag 0xBA) r (p, rest) test (λ g k.
    let both = and_parts (leb 0xA0 r.0.tag) (leb r.0.tag 0xBA) g in
    let t = element_takes bytes r.0 r.1 (ok_is (element_at bytes) r read) in
    subst (λ (q : Part × List ℕ). IsBodyFront bytes q.0 q.1) k (body_by bytes r.0 r.1 t (leb-true 0xA0 r.0.tag both.0) (leb-true r.0.tag 0xBA both.1))))

body_test : (p : Part) (rest : List ℕ) → 0xA0 ≤ p.tag → p.tag ≤ 0xBA → tagged_body (p, rest) ≡ Some (p, rest)
body_test p rest low high = grind (arith, nat_tests)

body_again : (tag : ℕ) (octets content rest : List ℕ) → IsElement octets (0xA0 + tag) content → tag ≤ 26 → body_front_at (octets ++ rest) ≡ Some (part (0xA0 + tag) content, rest)
unfolding body_front_at
body_again tag octets content rest is h =
    ap (λ (r : Result (Part × List ℕ) DerFault). ok_of r >>= tagged_body) (element_reads (octets ++ rest) octets content rest (0xA0 + tag) is refl)
    ∙ body_test (part (0xA0 + tag) content) rest (omega arith) (omega (arith, h))

-- the elements of a frame
abbrev outline_with : Part → Part → Option (List ℕ) → Option (List ℕ) → OutlineForm
outline_with header body protection extra = record { header = header; body = body; protection = protection; extra = extra }

record IsOutline (content : List ℕ) (o : OutlineForm) : Type 0 where
  header : IsElement o.header.whole 0x30 o.header.content
  body : IsElement o.body.whole (0xA0 + (o.body.tag - 0xA0)) o.body.content
  alternative : o.body.tag - 0xA0 ≤ 26
  protection : FitsOptional bits_spelling FitsBits o.protection
  extra : FitsOptional same IsAnything o.extra
  spelled : content ≡ parts_content o.header.whole o.body.whole o.protection o.extra

content_by : (content h r1 b r2 : List ℕ) (o : Option (List ℕ)) (r3 : List ℕ) (x : Option (List ℕ)) (r4 : List ℕ)
    → content ≡ h ++ r1 → r1 ≡ b ++ r2 → r2 ≡ optional_spelling 0xA0 bits_spelling o ++ r3 → r3 ≡ optional_spelling 0xA1 same x ++ r4 → r4 ≡ []
    → content ≡ parts_content h b o x
content_by content h r1 b r2 o r3 x r4 e0 e1 e2 e3 e4 =
    let s3 : r3 ≡ optional_spelling 0xA1 same x = e3 ∙ ap (λ (l : List ℕ). optional_spelling 0xA1 same x ++ l) e4 ∙ append-nil (optional_spelling 0xA1 same x) in
    let s2 : r2 ≡ optional_spelling 0xA0 bits_spelling o ++ optional_spelling 0xA1 same x = e2 ∙ ap (λ (l : List ℕ). optional_spelling 0xA0 bits_spelling o ++ l) s3 in
    e0 ∙ ap (λ (l : List ℕ). h ++ l) (e1 ∙ ap (λ (l : List ℕ). b ++ l) s2)

-- a list of no length is empty
empty_of : (l : List ℕ) → eqb (length l) 0 ≡ true → l ≡ []
empty_of [] h = refl
empty_of (x ∷ l) h = absurd (omega (arith, eqb-true (length (x ∷ l)) 0 h))

outline_takes : (content : List ℕ) (o : OutlineForm) → outline_at content ≡ Some o → IsOutline content o
unfolding outline_at
outline_takes content o e =
    bound (IsOutline content o) (field_at 0x30 content) _ o e (λ p1 q1 e1.
    bound (IsOutline content o) (body_front_at p1.1) _ o e1 (λ p2 q2 e2.
    bound (IsOutline content o) (optional_with bits_alone_at 0xA0 p2.1) _ o e2 (λ p3 q3 e3.
    bound (IsOutline content o) (optional_with anything_at 0xA1 p3.1) _ o e3 (λ p4 q4 e4.
    passed (IsOutline content o) (eqb (length p4.1) 0) (outline_with p1.0 p2.0 p3.0 p4.0) o e4 (λ none k.
    let h = field_takes 0x30 content p1.0 p1.1 q1 in
    let b = body_takes p1.1 p2.0 p2.1 q2 in
    let p = protection_field.takes p2.1 p3.0 p3.1 q3 in
    let x = extra_field.takes p3.1 p4.0 p4.1 q4 in
    let is : IsOutline content (outline_with p1.0 p2.0 p3.0 p4.0) = record {
      header = h.element_is;
      body = b.element_is;
      alternative = b.alternative;
      protection = p.0;
      extra = x.0;
      spelled = content_by content p1.0.whole p1.1 p2.0.whole p2.1 p3.0 p3.1 p4.0 p4.1 h.parts b.parts p.1 x.1 (empty_of p4.1 none);
    } in
    subst (λ (z : OutlineForm). IsOutline content z) k is)))))

-- the last field, with nothing behind it
above_last : (x : Option (List ℕ)) → Above 0xA0 (optional_spelling 0xA1 same x)
unfolding element
above_last None = tt
above_last (Some x) = omega arith

extra_again : (x : Option (List ℕ)) → FitsOptional same IsAnything x → optional_with anything_at 0xA1 (optional_spelling 0xA1 same x) ≡ Some (x, [])
extra_again x fits = ap (optional_with anything_at 0xA1) (sym (append-nil (optional_spelling 0xA1 same x))) ∙ extra_field.again x [] fits tt

header_again : (octets content rest : List ℕ) → IsElement octets 0x30 content → field_at 0x30 (octets ++ rest) ≡ Some (part 0x30 content, rest)
header_again octets content rest is = ap (λ (l : List ℕ). field_at 0x30 (l ++ rest)) is.spelled ∙ field_again 0x30 content rest is.low_tag is.counted

outline_again : (header h body b : List ℕ) (tag : ℕ) (o x : Option (List ℕ)) → IsElement header 0x30 h → IsElement body (0xA0 + tag) b → tag ≤ 26 → FitsOptional bits_spelling FitsBits o → FitsOptional same IsAnything x
    → outline_at (parts_content header body o x) ≡ Some (outline_with (part 0x30 h) (part (0xA0 + tag) b) o x)
unfolding outline_at
outline_again header h body b tag o x is_header is_body alternative fits_o fits_x =
    rw (
      header_again header h (body ++ (optional_spelling 0xA0 bits_spelling o ++ optional_spelling 0xA1 same x)) is_header,
      body_again tag body b (optional_spelling 0xA0 bits_spelling o ++ optional_spelling 0xA1 same x) is_body alternative,
      protection_field.again o (optional_spelling 0xA1 same x) fits_o (above_last x),
      extra_again x fits_x,
    ) refl

-- a choice that was not left
kept : {A : Type 0} (P : Type 0) → (b : Bool) (r : Option A) (y : A) → cond b None r ≡ Some y → (b ≡ false → r ≡ Some y → P) → P
kept P true r y e go = absurd (none_some y e)
kept P false r y e go = go refl e

record IsOutlineAlone (bytes : List ℕ) (o : OutlineForm) : Type 0 where
  content : List ℕ
  alone : IsElement bytes 0x30 content
  limited : length bytes ≤ message_limit
  outline : IsOutline content o

alone_takes : (bytes : List ℕ) (o : OutlineForm) → outline_alone_at bytes ≡ Some o → IsOutlineAlone bytes o
unfolding outline_alone_at
alone_takes bytes o e =
    kept (IsOutlineAlone bytes o) (ltb message_limit (length bytes)) (sole_at 0x30 bytes >>= λ s. outline_at s.content) o e (λ small e1.
    bound (IsOutlineAlone bytes o) (sole_at 0x30 bytes) (λ (s : Part). outline_at s.content) o e1 (λ s read e2.
    let t = sole_takes 0x30 bytes s read in
    record {
      content = s.content;
      alone = subst (λ (l : List ℕ). IsElement l 0x30 s.content) (sym (t.parts ∙ append-nil s.whole)) t.element_is;
      limited = ltb-false message_limit (length bytes) small;
      outline = outline_takes s.content o e2;
    }))

alone_again : (bytes content : List ℕ) (o : OutlineForm) → IsElement bytes 0x30 content → length bytes ≤ message_limit → outline_at content ≡ Some o → outline_alone_at bytes ≡ Some o
unfolding outline_alone_at
alone_again bytes content o is limited e =
    let small : ltb message_limit (length bytes) ≡ false = le-ltb message_limit (length bytes) limited in
    rw (small, sole_reads 0x30 bytes content is) e

-- the frame of these elements
frame_by : (bytes : List ℕ) (o : OutlineForm) (f : FrameForm) → IsOutlineAlone bytes o → IsFrameOf o f → IsFrame bytes f
frame_by bytes o f a of =
    let spelled : a.content ≡ frame_content f = a.outline.spelled ∙ rw (of.header_bytes, of.body_bytes, of.protection, of.extra) refl in
    record {
      fits = record {
        head = of.head;
        time = of.time;
        header = subst (λ (l : List ℕ). IsElement l 0x30 (head_content f.head)) (sym of.header_bytes) (subst (λ (l : List ℕ). IsElement o.header.whole 0x30 l) of.header a.outline.header);
        body = record {
          alternative = subst (λ (n : ℕ). n ≤ 26) (sym of.body_tag) a.outline.alternative;
          content = o.body.content;
          alone = rw (of.body_bytes, of.body_tag) a.outline.body;
        };
        protection = rw of.protection a.outline.protection;
        extra = rw of.extra a.outline.extra;
      };
      alone = subst (λ (l : List ℕ). IsElement bytes 0x30 l) spelled a.alone;
      limited = a.limited;
    }

pub frame_found : (bytes : List ℕ) (o : OutlineForm) (r : Result Frame BadForm) → outline_alone_at bytes ≡ Some o → IfOk r (λ f. IsFrameOf o (frame_of f)) → IfOk r (λ f. IsFrame bytes (frame_of f))
frame_found bytes o (Ok f) read of = frame_by bytes o (frame_of f) (alone_takes bytes o read) of
frame_found bytes o (Err e) read of = tt

-- the elements of a frame
pub record IsOutlined (bytes : List ℕ) (f : FrameForm) : Type 0 where
  pub o : OutlineForm
  pub read : outline_alone_at bytes ≡ Some o
  pub tagged : o.header.tag ≡ 0x30
  pub frame : IsFrameOf o f

pub frame_outlined : (bytes : List ℕ) (f : FrameForm) → IsFrame bytes f → IsOutlined bytes f
frame_outlined bytes f is =
    let content = head_content f.head in
    let tag_is : f.body_tag ≡ (0xA0 + f.body_tag) - 0xA0 = omega arith in
    record {
      o = outline_with (part 0x30 content) (part (0xA0 + f.body_tag) is.fits.body.content) f.protection f.extra;
      read = alone_again bytes (frame_content f) _ is.alone is.limited (outline_again f.header_bytes content f.body_bytes is.fits.body.content f.body_tag f.protection f.extra is.fits.header is.fits.body.alone is.fits.body.alternative is.fits.protection is.fits.extra);
      tagged = refl;
      frame = record {
        head = is.fits.head;
        time = is.fits.time;
        header = refl;
        header_bytes = is.fits.header.spelled;
        body_tag = tag_is;
        body_bytes = is.fits.body.alone.spelled;
        protection = refl;
        extra = refl;
      };
    }

pub frame_no : (bytes : List ℕ) (f : FrameForm) → outline_alone_at bytes ≡ None → IsFrame bytes f → ⊥
frame_no bytes f none is = let w = frame_outlined bytes f is in none_some w.o (sym none ∙ w.read)

-- what the elements that were read are of, they are of where they are read again
pub record IsHeadedBy (o : OutlineForm) (f : FrameForm) : Type 0 where
  pub tagged : o.header.tag ≡ 0x30
  pub frame : IsFrameOf o f

pub frame_again : (bytes : List ℕ) (o : OutlineForm) (f : FrameForm) → outline_alone_at bytes ≡ Some o → IsFrame bytes f → IsHeadedBy o f
frame_again bytes o f read is =
    let w = frame_outlined bytes f is in
    subst (λ (z : OutlineForm). IsHeadedBy z f) (some_same w.o o (sym w.read ∙ read)) (record { tagged = w.tagged; frame = w.frame })

-- no frame begins another one
nothing_left : (a rest : List ℕ) → a ≡ a ++ rest → rest ≡ []
nothing_left a [] e = refl
nothing_left a (x ∷ rest) e = absurd (omega (arith, ap (λ (l : List ℕ). length l) e, length-append a (x ∷ rest)))

pub frame_begins_no_other : FrameBeginsNoOther
frame_begins_no_other a b rest f g is_f is_g e =
    let one = begins_no_other a b rest [] 0x30 0x30 (frame_content f) (frame_content g) is_f.alone is_g.alone (sym e ∙ sym (append-nil b)) in
    nothing_left a rest (one.0 ∙ e)
