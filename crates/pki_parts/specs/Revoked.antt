-- Responses to requests to revoke (RFC 9810, 5.3.10).
use Rattle.std.specs.Prelude.{◌≡◌, ℕ, ◌^◌, ◌<◌, ◌++◌, ◌==◌, if◌then◌else◌, List, length, Option, Some, None, option_map}
use Rattle.der_base.specs.Element.{element}
use Rattle.der_base.specs.Reading.{Part, whole_at}
use Rattle.asn_fields.specs.Fields.{◌>>=◌, ok_of, optional_with}
use Rattle.asn_fields.specs.Forms.{optional_spelling, FitsOptional}
use Rattle.asn_fields.specs.Rows.{RowForm, IsRowContent, row_at}
use Rattle.asn_types.specs.Algorithm.{IsAny}
use Rattle.asn_types.specs.Template.{same}
use Rattle.asn_parts.specs.Parts.{required_with}
use Rattle.pki_parts.specs.Status.{StatusForm, FitsStatus, status_content, status_of, status_at}
use Rattle.pki_parts.specs.declared.revoked.RevRep.{RevRep}

-- RevRepContent: the SEQUENCE of the status of each request, then revCerts [0] and crls [1], each of which may be left out, and
-- holds one element that is not looked into, since its tag is explicit. So many statuses, and this is the first one.
pub record IsRevRep (p : Part) (row : RowForm StatusForm) : Type 0 where
  pub statuses : List ℕ
  pub certs : Option (List ℕ)
  pub crls : Option (List ℕ)
  pub is_sequence : p.tag ≡ 0x30
  pub spelled : p.content ≡ element 0x30 statuses ++ (optional_spelling 0xA0 same certs ++ optional_spelling 0xA1 same crls)
  pub counted : length statuses < 2 ^ 32
  pub each : IsRowContent 0x30 status_content FitsStatus statuses row
  pub certs_fit : FitsOptional same IsAny certs
  pub crls_fit : FitsOptional same IsAny crls

-- what was read shows
abbrev pub rev_rep_of : RevRep → RowForm StatusForm
rev_rep_of r = record { count = r.count; first = option_map status_of r.first }

-- what is read
unfoldable pub one_at : List ℕ → Option (List ℕ)
one_at content = do
  p ← ok_of (whole_at content)
  Some p.whole

abbrev pub statuses_at : List ℕ → Option (RowForm StatusForm × List ℕ)
statuses_at = required_with (row_at status_at 0x30) 0x30

unfoldable pub rev_rep_inside_at : List ℕ → Option (RowForm StatusForm)
rev_rep_inside_at content = do
  statuses ← statuses_at content
  certs ← optional_with one_at 0xA0 statuses.1
  crls ← optional_with one_at 0xA1 certs.1
  if length crls.1 == 0 then Some statuses.0 else None

unfoldable pub rev_rep_at : Part → Option (RowForm StatusForm)
rev_rep_at p = if p.tag == 0x30 then rev_rep_inside_at p.content else None

-- what is written: the response with one status, a whole element
abbrev pub rev_rep_octets : List ℕ → List ℕ
rev_rep_octets status = element 0x30 (element 0x30 status)
