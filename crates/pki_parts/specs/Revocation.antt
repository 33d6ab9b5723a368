-- Requests to revoke (RFC 9810, 5.3.9).
use Rattle.std.specs.Prelude.{ℕ, ◌++◌, ◌==◌, if◌then◌else◌, List, [], ◌∷◌, length, Option, Some, None, option_map}
use Rattle.der_base.specs.Element.{element}
use Rattle.der_base.specs.Reading.{Part}
use Rattle.asn_fields.specs.Fields.{◌>>=◌, optional_with}
use Rattle.asn_fields.specs.Forms.{optional_spelling, FitsOptional}
use Rattle.asn_fields.specs.Rows.{RowForm, row_of}
use Rattle.asn_types.specs.Extension.{is_extensions}
use Rattle.asn_types.specs.Template.{TemplateForm, FitsTemplate, Passes, same, template_content, template_of, extensions_of, tested_at, template_at}
use Rattle.asn_parts.specs.Number.{number_octets}
use Rattle.asn_parts.specs.Parts.{FitsTagged, required_with}
use Rattle.pki_parts.specs.Lists.{IsList, IsOne, list_at}
use Rattle.pki_parts.specs.Reason.{IsReasonOf, reason_extension}
use Rattle.pki_parts.specs.declared.revocation.RevEntry.{RevEntry}
use Rattle.pki_parts.specs.declared.revocation.RevReq.{RevReq}

-- RevDetails: certDetails, a template, and crlEntryDetails, the content of an Extensions
pub record RevForm : Type 0 where
  pub template : TemplateForm
  pub exts : Option (List ℕ)

abbrev pub rev_content : RevForm → List ℕ
rev_content r = element 0x30 (template_content r.template) ++ optional_spelling 0x30 same r.exts

pub record FitsRev (r : RevForm) : Type 0 where
  pub template : FitsTagged template_content FitsTemplate r.template
  pub exts : FitsOptional same (Passes is_extensions) r.exts

-- RevReqContent: of each certificate its details
abbrev pub IsRevReq : Part → RowForm RevForm → Type 0
IsRevReq = IsList rev_content FitsRev

-- what was read shows
abbrev pub rev_of : RevEntry → RevForm
rev_of r = record { template = template_of r.template; exts = option_map extensions_of r.exts }

abbrev pub rev_req_of : RevReq → RowForm RevForm
rev_req_of r = record { count = r.count; first = option_map rev_of r.first }

-- what is read
unfoldable pub rev_at : List ℕ → Option RevForm
rev_at content = do
  template ← required_with template_at 0x30 content
  exts ← optional_with (tested_at is_extensions) 0x30 template.1
  if length exts.1 == 0 then Some (record { template = template.0; exts = exts.0 }) else None

abbrev pub rev_req_at : Part → Option (RowForm RevForm)
rev_req_at = list_at rev_at

-- what is written: the details of one certificate, by its serial number [1] and its issuer [3], and the reason
abbrev pub rev_template_octets : List ℕ → ℕ → List ℕ
rev_template_octets issuer serial = element 0x81 (number_octets serial) ++ element 0xA3 issuer

abbrev pub rev_req_octets : List ℕ → ℕ → ℕ → List ℕ
rev_req_octets issuer serial reason = element 0x30 (element 0x30 (element 0x30 (rev_template_octets issuer serial) ++ element 0x30 (reason_extension reason)))

-- what is read again of it
abbrev pub rev_template : List ℕ → ℕ → TemplateForm
rev_template issuer serial = record {
  version = None;
  serial = Some (number_octets serial);
  alg = None;
  issuer = Some issuer;
  validity = None;
  subject = None;
  key = None;
  issuer_uid = None;
  subject_uid = None;
  exts = None;
}

abbrev pub rev_details : List ℕ → ℕ → ℕ → RevForm
rev_details issuer serial reason = record { template = rev_template issuer serial; exts = Some (reason_extension reason) }

-- The octets are a request to revoke one certificate, and the extensions in it give this reason.
pub record GivesReason (octets : List ℕ) (reason : ℕ) : Type 0 where
  pub details : RevForm
  pub one : IsOne (λ p. IsRevReq p (row_of (details ∷ []))) octets
  pub given : IsReasonOf details.exts reason
