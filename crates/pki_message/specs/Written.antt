-- Messages from the elements of a header and a body.
use Rattle.std.specs.Prelude.{◌≡◌, ℕ, ◌+◌, List, length, Option, option_map}
use Rattle.der_base.specs.Element.{element}
use Rattle.pki_parts.specs.Status.{option_size}
use Rattle.pki_message.specs.Frame.{FrameForm, parts_content}

-- the SEQUENCE of one certificate
abbrev pub one_certificate : List ℕ → List ℕ
one_certificate cert = element 0x30 cert

-- The parts put in as they stand: the header, the body, the protection's octets, and the one certificate of extraCerts.
abbrev pub written_content : List ℕ → List ℕ → Option (List ℕ) → Option (List ℕ) → List ℕ
written_content header body protection cert = parts_content header body protection (option_map one_certificate cert)

-- how many octets a message of these parts has at most
abbrev pub message_size : List ℕ → List ℕ → Option (List ℕ) → Option (List ℕ) → ℕ
message_size header body protection cert = length header + length body + option_size protection + option_size cert + 64

-- The frame has these parts.
pub record HasParts (f : FrameForm) (h b : List ℕ) (p c : Option (List ℕ)) : Type 0 where
  pub header : f.header_bytes ≡ h
  pub body : f.body_bytes ≡ b
  pub protection : f.protection ≡ p
  pub extra : f.extra ≡ option_map one_certificate c
