-- PKIStatusInfo (RFC 9810, 5.2.3).
use Rattle.std.specs.Prelude.{ℕ, ◌++◌, ◌==◌, if◌then◌else◌, IsTrue, IfSome, List, [], ◌∷◌, length, Option, Some, None, option_map, unwrap_or}
use Rattle.std.specs.Option.{option_copied}
use Rattle.std.specs.Str.{is_utf8}
use Rattle.der_base.specs.Element.{element}
use Rattle.der_base.specs.Values.{BitString, is_integer, is_bits, bits_of, bit_string_of}
use Rattle.asn_fields.specs.Fields.{◌>>=◌, optional_with}
use Rattle.asn_fields.specs.Forms.{optional_spelling, FitsOptional}
use Rattle.asn_types.specs.Template.{Passes, same, tested_at}
use Rattle.asn_parts.specs.Number.{number_octets}
use Rattle.asn_parts.specs.Parts.{FitsTagged, required_with}
use Rattle.cmp_values.specs.Reasons.{bit_of}
use Rattle.pki_parts.specs.FailInfo.{bits_to}
use Rattle.pki_parts.specs.Texts.{IsTexts, are_texts}
use Rattle.cmp_values.specs.declared.fail_info.FailInfo.{FailInfo}
use Rattle.pki_parts.specs.declared.status.StatusInfo.{StatusInfo}

-- what stands in it: the content of status, that of statusString, and failInfo
pub record StatusForm : Type 0 where
  pub status : List ℕ
  pub text : Option (List ℕ)
  pub fail : Option BitString

-- a string of bits (X.690, 8.6.2)
abbrev pub bits_content : BitString → List ℕ
bits_content b = b.unused ∷ b.octets

abbrev pub IsBits : BitString → Type 0
IsBits b = IsTrue (is_bits (bits_content b))

-- The fields in their order: status, an INTEGER, then statusString, a row of texts, and failInfo, each of which may be left out.
abbrev pub status_content : StatusForm → List ℕ
status_content s = element 0x02 s.status ++ (optional_spelling 0x30 same s.text ++ optional_spelling 0x03 bits_content s.fail)

-- Each field that stands there has the form of its type.
pub record FitsStatus (s : StatusForm) : Type 0 where
  pub status : FitsTagged same (Passes is_integer) s.status
  pub text : FitsOptional same IsTexts s.text
  pub fail : FitsOptional bits_content IsBits s.fail

-- what was read shows
abbrev pub status_of : StatusInfo → StatusForm
status_of s = record { status = s.status.now; text = option_copied s.text; fail = option_map bit_string_of s.fail }

-- what is read
unfoldable pub bits_inside_at : List ℕ → Option BitString
bits_inside_at content = if is_bits content then Some (bits_of content) else None

unfoldable pub status_at : List ℕ → Option StatusForm
status_at content = do
  status ← required_with (tested_at is_integer) 0x02 content
  text ← optional_with (tested_at are_texts) 0x30 status.1
  fail ← optional_with bits_inside_at 0x03 text.1
  if length fail.1 == 0 then Some (record { status = status.0; text = text.0; fail = fail.0 }) else None

-- what is written: a status, one text or none, and a reason or none
abbrev pub one_text : List ℕ → List ℕ
one_text text = element 0x0C text

abbrev pub reason_bits : FailInfo → BitString
reason_bits fail = bits_to (bit_of fail)

abbrev pub written_status : ℕ → Option (List ℕ) → Option FailInfo → StatusForm
written_status status text fail = record { status = number_octets status; text = option_map one_text text; fail = option_map reason_bits fail }

-- How many octets what may be left out has.
abbrev pub option_size : Option (List ℕ) → ℕ
option_size o = length (unwrap_or o [])

-- The text is one.
abbrev pub IsTextOrNone : Option (List ℕ) → Type 0
IsTextOrNone text = IfSome text (λ t. IsTrue (is_utf8 t))
