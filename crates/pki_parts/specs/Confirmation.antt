-- Confirmations of certificates (RFC 9810, 5.3.18).
use Rattle.std.specs.Prelude.{ℕ, ℤ, ◌++◌, ◌==◌, if◌then◌else◌, List, [], length, Option, Some, None, option_map}
use Rattle.der_base.specs.Element.{element}
use Rattle.der_base.specs.Reading.{Part}
use Rattle.der_base.specs.Values.{is_integer}
use Rattle.asn_fields.specs.Fields.{◌>>=◌, optional_with}
use Rattle.asn_fields.specs.Forms.{optional_spelling, FitsOptional}
use Rattle.asn_fields.specs.Rows.{RowForm}
use Rattle.asn_types.specs.Algorithm.{Algorithm, FitsAlgorithm, algorithm_content, algorithm_of, algorithm_at}
use Rattle.asn_types.specs.Template.{IsAnything, Passes, same, tested_at, anything_at}
use Rattle.asn_parts.specs.Number.{number_octets}
use Rattle.asn_parts.specs.Parts.{tagged, FitsTagged, required_with, sole_with}
use Rattle.pki_parts.specs.Identifier.{id_octets}
use Rattle.pki_parts.specs.Lists.{IsList, list_at}
use Rattle.pki_parts.specs.Status.{StatusForm, FitsStatus, status_content, status_of, status_at}
use Rattle.pki_parts.specs.declared.confirmation.CertStatus.{CertStatus}
use Rattle.pki_parts.specs.declared.confirmation.CertConfirm.{CertConfirm}

-- CertStatus: certHash, certReqId, statusInfo and hashAlg [0], which has an explicit tag
pub record CertStatusForm : Type 0 where
  pub hash : List ℕ
  pub id : List ℕ
  pub status : Option StatusForm
  pub hash_alg : Option Algorithm

abbrev pub cert_status_content : CertStatusForm → List ℕ
cert_status_content c =
    element 0x04 c.hash ++ (element 0x02 c.id
    ++ (optional_spelling 0x30 status_content c.status ++ optional_spelling 0xA0 (tagged 0x30 algorithm_content) c.hash_alg))

-- Each field that stands there has the form of its type.
pub record FitsCertStatus (c : CertStatusForm) : Type 0 where
  pub hash : FitsTagged same IsAnything c.hash
  pub id : FitsTagged same (Passes is_integer) c.id
  pub status : FitsOptional status_content FitsStatus c.status
  pub hash_alg : FitsOptional (tagged 0x30 algorithm_content) (FitsTagged algorithm_content FitsAlgorithm) c.hash_alg

-- CertConfirmContent: the status of each certificate
abbrev pub IsConfirm : Part → RowForm CertStatusForm → Type 0
IsConfirm = IsList cert_status_content FitsCertStatus

-- what was read shows
abbrev pub cert_status_of : CertStatus → CertStatusForm
cert_status_of c = record { hash = c.hash.now; id = c.id.now; status = option_map status_of c.status; hash_alg = option_map algorithm_of c.hash_alg }

abbrev pub confirm_of : CertConfirm → RowForm CertStatusForm
confirm_of c = record { count = c.count; first = option_map cert_status_of c.first }

-- what is read
unfoldable pub cert_status_at : List ℕ → Option CertStatusForm
cert_status_at content = do
  hash ← required_with anything_at 0x04 content
  id ← required_with (tested_at is_integer) 0x02 hash.1
  status ← optional_with status_at 0x30 id.1
  hash_alg ← optional_with (sole_with algorithm_at 0x30) 0xA0 status.1
  if length hash_alg.1 == 0 then Some (record { hash = hash.0; id = id.0; status = status.0; hash_alg = hash_alg.0 }) else None

abbrev pub confirm_at : Part → Option (RowForm CertStatusForm)
confirm_at = list_at cert_status_at

-- what is written: the status of one certificate, where there is one a number alone
abbrev pub written_info : ℕ → StatusForm
written_info status = record { status = number_octets status; text = None; fail = None }

abbrev pub status_octets : Option ℕ → List ℕ
status_octets None = []
status_octets (Some status) = element 0x30 (element 0x02 (number_octets status))

abbrev pub confirm_octets : List ℕ → ℤ → Option ℕ → List ℕ
confirm_octets hash id status = element 0x30 (element 0x30 (element 0x04 hash ++ (element 0x02 (id_octets id) ++ status_octets status)))

-- what is read again of it
abbrev pub written_status_of : List ℕ → ℤ → Option ℕ → CertStatusForm
written_status_of hash id status = record { hash = hash; id = id_octets id; status = option_map written_info status; hash_alg = None }
