-- ErrorMsgContent (RFC 9810, 5.3.21).
use Rattle.std.specs.Prelude.{ℕ, ◌++◌, ◌==◌, if◌then◌else◌, List, length, Option, Some, None}
use Rattle.std.specs.Option.{option_copied}
use Rattle.der_base.specs.Element.{element}
use Rattle.der_base.specs.Values.{is_integer}
use Rattle.asn_fields.specs.Fields.{◌>>=◌, optional_with}
use Rattle.asn_fields.specs.Forms.{optional_spelling, FitsOptional}
use Rattle.asn_types.specs.Template.{Passes, same, tested_at}
use Rattle.asn_parts.specs.Parts.{FitsTagged, required_with}
use Rattle.pki_parts.specs.Status.{StatusForm, FitsStatus, status_content, status_of, status_at}
use Rattle.pki_parts.specs.Texts.{IsTexts, are_texts}
use Rattle.pki_parts.specs.declared.error.ErrorMsg.{ErrorMsg}

-- what stands in it: the status, the content of errorCode, and that of errorDetails
pub record ErrorForm : Type 0 where
  pub status : StatusForm
  pub code : Option (List ℕ)
  pub text : Option (List ℕ)

-- The fields in their order: pKIStatusInfo, then errorCode, an INTEGER, and errorDetails, a row of texts, each of which may be
-- left out.
abbrev pub error_content : ErrorForm → List ℕ
error_content e = element 0x30 (status_content e.status) ++ (optional_spelling 0x02 same e.code ++ optional_spelling 0x30 same e.text)

-- Each field that stands there has the form of its type.
pub record FitsError (e : ErrorForm) : Type 0 where
  pub status : FitsTagged status_content FitsStatus e.status
  pub code : FitsOptional same (Passes is_integer) e.code
  pub text : FitsOptional same IsTexts e.text

-- what was read shows
abbrev pub error_of : ErrorMsg → ErrorForm
error_of e = record { status = status_of e.status; code = option_copied e.code; text = option_copied e.text }

-- what is read
unfoldable pub error_at : List ℕ → Option ErrorForm
error_at content = do
  status ← required_with status_at 0x30 content
  code ← optional_with (tested_at is_integer) 0x02 status.1
  text ← optional_with (tested_at are_texts) 0x30 code.1
  if length text.1 == 0 then Some (record { status = status.0; code = code.0; text = text.0 }) else None

-- what is written of a status, and nothing else
abbrev pub written_error : StatusForm → ErrorForm
written_error status = record { status = status; code = None; text = None }
