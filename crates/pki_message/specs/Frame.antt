-- PKIMessage (RFC 9810, 5.1) as a frame: the contents of the body and of extraCerts are any octets.
use Rattle.std.specs.Prelude.{◌≡◌, ℕ, ◌+◌, ◌-◌, ◌^◌, ◌<◌, ◌≤◌, ◌++◌, ◌&&◌, ◌==◌, nat_le, nat_lt, if◌then◌else◌, List, [], ◌∷◌, length, Option, Some, None}
use Rattle.std.specs.Option.{option_copied}
use Rattle.der_base.specs.Element.{element, IsElement}
use Rattle.der_base.specs.Reading.{Part, part_of, element_at}
use Rattle.asn_fields.specs.Fields.{◌>>=◌, ok_of, field_at, sole_at, optional_with}
use Rattle.asn_fields.specs.Forms.{optional_spelling, FitsOptional}
use Rattle.asn_types.specs.Key.{plain_bits_at}
use Rattle.asn_types.specs.Template.{IsAnything, same, anything_at}
use Rattle.pki_header.specs.Header.{HeadForm, FitsHead, head_content, head_of}
use Rattle.pki_header.specs.Time.{IsTimeOf}
use Rattle.pki_message.specs.declared.frame.Outline.{Outline}
use Rattle.pki_message.specs.declared.frame.Frame.{Frame}

-- what stands in a frame: the header, the second of its time, and its whole element; the number of the body's alternative, and
-- its whole element; the protection's octets; and the content of extraCerts' tag
pub record FrameForm : Type 0 where
  pub head : HeadForm
  pub time : Option ℕ
  pub header_bytes : List ℕ
  pub body_tag : ℕ
  pub body_bytes : List ℕ
  pub protection : Option (List ℕ)
  pub extra : Option (List ℕ)

-- PKIProtection: a BIT STRING, here of whole octets, so with no unused bits
abbrev pub bits_spelling : List ℕ → List ℕ
bits_spelling octets = element 0x03 (0 ∷ octets)

abbrev pub FitsBits : List ℕ → Type 0
FitsBits octets = length octets + 1 < 2 ^ 32

-- The header, the body, protection [0] and extraCerts [1], one behind the other. The last two may be left out.
abbrev pub parts_content : List ℕ → List ℕ → Option (List ℕ) → Option (List ℕ) → List ℕ
parts_content header body protection extra =
    header ++ (body ++ (optional_spelling 0xA0 bits_spelling protection ++ optional_spelling 0xA1 same extra))

abbrev pub frame_content : FrameForm → List ℕ
frame_content f = parts_content f.header_bytes f.body_bytes f.protection f.extra

-- PKIBody is a choice of 27 alternatives, in explicit tags 0 to 26, which are constructed.
pub record IsBodyElement (tag : ℕ) (octets : List ℕ) : Type 0 where
  pub alternative : tag ≤ 26
  pub content : List ℕ
  pub alone : IsElement octets (0xA0 + tag) content

-- The header's octets are the element of a header, and the body's that of a body.
pub record FitsFrame (f : FrameForm) : Type 0 where
  pub head : FitsHead f.head
  pub time : IsTimeOf f.head.time f.time
  pub header : IsElement f.header_bytes 0x30 (head_content f.head)
  pub body : IsBodyElement f.body_tag f.body_bytes
  pub protection : FitsOptional bits_spelling FitsBits f.protection
  pub extra : FitsOptional same IsAnything f.extra

-- A message is read up to 131,072 octets.
abbrev pub message_limit : ℕ
message_limit = 131072

-- The octets are this frame, and at most as many as are read.
pub record IsFrame (bytes : List ℕ) (f : FrameForm) : Type 0 where
  pub fits : FitsFrame f
  pub alone : IsElement bytes 0x30 (frame_content f)
  pub limited : length bytes ≤ message_limit

-- What is protected: the SEQUENCE of the header and the body, over their octets as they stand (RFC 9810, 5.1.3).
abbrev pub protected_part : List ℕ → List ℕ → List ℕ
protected_part header body = element 0x30 (header ++ body)

-- No frame begins another one.
abbrev pub FrameBeginsNoOther : Type 0
FrameBeginsNoOther = (a b rest : List ℕ) (f g : FrameForm) → IsFrame a f → IsFrame b g → b ≡ a ++ rest → rest ≡ []

-- what a frame that was read shows
abbrev pub frame_of : Frame → FrameForm
frame_of f = record {
  head = head_of f.header;
  time = f.header.time;
  header_bytes = f.header_bytes.now;
  body_tag = f.body_tag;
  body_bytes = f.body_bytes.now;
  protection = option_copied f.protection;
  extra = option_copied f.extra;
}

-- what is read first: the elements of a frame, the header not looked into
pub record OutlineForm : Type 0 where
  pub header : Part
  pub body : Part
  pub protection : Option (List ℕ)
  pub extra : Option (List ℕ)

abbrev pub outline_of : Outline → OutlineForm
outline_of o = record { header = part_of o.header; body = part_of o.body; protection = option_copied o.protection; extra = option_copied o.extra }

abbrev pub tagged_body : Part × List ℕ → Option (Part × List ℕ)
tagged_body r = if nat_le 0xA0 r.0.tag && nat_le r.0.tag 0xBA then Some r else None

unfoldable pub body_front_at : List ℕ → Option (Part × List ℕ)
body_front_at bytes = ok_of (element_at bytes) >>= tagged_body

unfoldable pub bits_alone_at : List ℕ → Option (List ℕ)
bits_alone_at bytes = sole_at 0x03 bytes >>= plain_bits_at

unfoldable pub outline_at : List ℕ → Option OutlineForm
outline_at content = do
  header ← field_at 0x30 content
  body ← body_front_at header.1
  protection ← optional_with bits_alone_at 0xA0 body.1
  extra ← optional_with anything_at 0xA1 protection.1
  if length extra.1 == 0 then Some (record {
    header = header.0;
    body = body.0;
    protection = protection.0;
    extra = extra.0;
  }) else None

unfoldable pub outline_alone_at : List ℕ → Option OutlineForm
outline_alone_at bytes = if nat_lt message_limit (length bytes) then None else (sole_at 0x30 bytes >>= λ s. outline_at s.content)

-- and then the header: the frame of these elements
pub record IsFrameOf (o : OutlineForm) (f : FrameForm) : Type 0 where
  pub head : FitsHead f.head
  pub time : IsTimeOf f.head.time f.time
  pub header : o.header.content ≡ head_content f.head
  pub header_bytes : f.header_bytes ≡ o.header.whole
  pub body_tag : f.body_tag ≡ o.body.tag - 0xA0
  pub body_bytes : f.body_bytes ≡ o.body.whole
  pub protection : f.protection ≡ o.protection
  pub extra : f.extra ≡ o.extra
