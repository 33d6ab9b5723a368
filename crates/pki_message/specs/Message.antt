-- PKIMessage (RFC 9810, 5.1): a frame whose body is looked into, and whose extraCerts are certificates.
use Rattle.std.specs.Prelude.{◌≡◌, ◌≢◌, ℕ, ◌+◌, ◌≤◌, ◌++◌, ◌&&◌, ◌==◌, not, Bool, IfSome, List, [], length, Option, Some, None, option_map}
use Rattle.std.specs.Option.{option_copied}
use Rattle.der_base.specs.Element.{element, IsElement}
use Rattle.der_base.specs.Reading.{whole_at}
use Rattle.asn_fields.specs.Fields.{◌>>=◌, ok_of}
use Rattle.asn_types.specs.Template.{tested_at}
use Rattle.asn_parts.specs.Parts.{sole_with}
use Rattle.pki_header.specs.Header.{HeadForm, head_of}
use Rattle.pki_parts.specs.Certificates.{IsCertificates, are_certificates}
use Rattle.pki_message.specs.Body.{BodyForm, IsInside, tag_of, body_of, body_at}
use Rattle.pki_message.specs.Frame.{FrameForm, FitsFrame, frame_content, message_limit}
use Rattle.pki_message.specs.declared.message.Message.{Message}

-- One or more certificates, each a SEQUENCE of whole elements: what extraCerts carry.
pub record IsExtraCerts (content : List ℕ) : Type 0 where
  pub some : content ≢ []
  pub row : IsCertificates content

-- what stands in a message: the header, the second of its time, and the body; the whole elements of both; the protection's
-- octets; and the content of the SEQUENCE of certificates
pub record MessageForm : Type 0 where
  pub head : HeadForm
  pub time : Option ℕ
  pub body : BodyForm
  pub header_bytes : List ℕ
  pub body_bytes : List ℕ
  pub protection : Option (List ℕ)
  pub extra : Option (List ℕ)

-- the same, the body not looked into
abbrev pub frame_in : MessageForm → FrameForm
frame_in m = record {
  head = m.head;
  time = m.time;
  header_bytes = m.header_bytes;
  body_tag = tag_of m.body;
  body_bytes = m.body_bytes;
  protection = m.protection;
  extra = option_map (element 0x30) m.extra;
}

-- The body stands inside its tag, and where there are certificates there is at least one.
pub record FitsMessage (m : MessageForm) : Type 0 where
  pub frame : FitsFrame (frame_in m)
  pub inside : List ℕ
  pub body : IsElement m.body_bytes (0xA0 + tag_of m.body) inside
  pub form : IsInside m.body inside
  pub extra : IfSome m.extra IsExtraCerts

-- The octets are this message, and at most as many as are read.
pub record IsMessage (bytes : List ℕ) (m : MessageForm) : Type 0 where
  pub fits : FitsMessage m
  pub alone : IsElement bytes 0x30 (frame_content (frame_in m))
  pub limited : length bytes ≤ message_limit

-- No message begins another one.
abbrev pub MessageBeginsNoOther : Type 0
MessageBeginsNoOther = (a b rest : List ℕ) (m n : MessageForm) → IsMessage a m → IsMessage b n → b ≡ a ++ rest → rest ≡ []

-- what a message that was read shows
abbrev pub message_of : Message → MessageForm
message_of m = record {
  head = head_of m.header;
  time = m.header.time;
  body = body_of m.body;
  header_bytes = m.header_bytes.now;
  body_bytes = m.body_bytes.now;
  protection = option_copied m.protection;
  extra = option_copied m.extra;
}

-- what is read of a frame
unfoldable pub are_extra_certs : List ℕ → Bool
are_extra_certs content = not (length content == 0) && are_certificates content

abbrev pub extra_certs_at : List ℕ → Option (List ℕ)
extra_certs_at = sole_with (tested_at are_extra_certs) 0x30

unfoldable pub extra_at : Option (List ℕ) → Option (Option (List ℕ))
extra_at None = Some None
extra_at (Some octets) = extra_certs_at octets >>= λ x. Some (Some x)

abbrev pub message_with : FrameForm → BodyForm → Option (List ℕ) → MessageForm
message_with f body extra = record {
  head = f.head;
  time = f.time;
  body = body;
  header_bytes = f.header_bytes;
  body_bytes = f.body_bytes;
  protection = f.protection;
  extra = extra;
}

unfoldable pub message_at : FrameForm → Option MessageForm
message_at f = do
  p ← ok_of (whole_at f.body_bytes)
  body ← body_at f.body_tag p.content
  extra ← extra_at f.extra
  Some (message_with f body extra)
