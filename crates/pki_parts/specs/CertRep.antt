-- CertRepMessage (RFC 9810, 5.3.4), the body of ip, cp and kup.
use Rattle.std.specs.Prelude.{◌≡◌, ℕ, ℤ, ◌^◌, ◌<◌, ◌++◌, ◌==◌, if◌then◌else◌, List, [], ◌∷◌, length, map, Option, Some, None, option_map, IfSome}
use Rattle.std.specs.Option.{option_copied}
use Rattle.der_base.specs.Element.{element, IsElement}
use Rattle.der_base.specs.Reading.{whole_at}
use Rattle.der_base.specs.Values.{is_integer}
use Rattle.asn_fields.specs.Fields.{◌>>=◌, ok_of, sole_at, optional_with}
use Rattle.asn_fields.specs.Forms.{optional_spelling, FitsOptional}
use Rattle.asn_fields.specs.Rows.{RowForm, row_of, entries_spelling, FitsEntries, row_at}
use Rattle.asn_types.specs.Algorithm.{IsAny}
use Rattle.asn_types.specs.Template.{IsAnything, Passes, same, tested_at, anything_at}
use Rattle.asn_parts.specs.Parts.{tagged, FitsTagged, required_with, sole_with}
use Rattle.pki_parts.specs.Certificates.{IsWholeCertificate, IsCertificates, are_elements, are_certificates}
use Rattle.pki_parts.specs.Identifier.{id_octets}
use Rattle.pki_parts.specs.Status.{StatusForm, FitsStatus, status_content, status_of, status_at}
use Rattle.pki_parts.specs.declared.cert_rep.CertOrEncCert.{CertOrEncCert}
use Rattle.pki_parts.specs.declared.cert_rep.CertOrEncCert.TheVariants as variant
use Rattle.pki_parts.specs.declared.cert_rep.KeyPair.{KeyPair}
use Rattle.pki_parts.specs.declared.cert_rep.Response.{Response}
use Rattle.pki_parts.specs.declared.cert_rep.CertResponse.{CertResponse}
use Rattle.pki_parts.specs.declared.cert_rep.CertRep.{CertRep}

-- CertOrEncCert: a whole certificate [0], or a whole element of any form [1]
pub data CertForm : Type 0 where
  certificate : List ℕ → CertForm
  encrypted : List ℕ → CertForm

abbrev pub cert_spelling : CertForm → List ℕ
cert_spelling (certificate octets) = element 0xA0 octets
cert_spelling (encrypted octets) = element 0xA1 octets

abbrev pub FitsCert : CertForm → Type 0
FitsCert (certificate octets) = FitsTagged same IsWholeCertificate octets
FitsCert (encrypted octets) = FitsTagged same IsAny octets

-- CertifiedKeyPair: the certificate, then privateKey [0] and publicationInfo [1], each a whole element of any form, which may be
-- left out
pub record PairForm : Type 0 where
  pub cert : CertForm
  pub key : Option (List ℕ)
  pub publication : Option (List ℕ)

abbrev pub pair_content : PairForm → List ℕ
pair_content p = cert_spelling p.cert ++ (optional_spelling 0xA0 same p.key ++ optional_spelling 0xA1 same p.publication)

pub record FitsPair (p : PairForm) : Type 0 where
  pub cert : FitsCert p.cert
  pub key : FitsOptional same IsAny p.key
  pub publication : FitsOptional same IsAny p.publication

-- CertResponse: certReqId, status, certifiedKeyPair, and rspInfo, an OCTET STRING, of which the last two may be left out
pub record ResponseForm : Type 0 where
  pub id : List ℕ
  pub status : StatusForm
  pub pair : Option PairForm
  pub info : Option (List ℕ)

abbrev pub response_content : ResponseForm → List ℕ
response_content r =
    element 0x02 r.id ++ (element 0x30 (status_content r.status)
    ++ (optional_spelling 0x30 pair_content r.pair ++ optional_spelling 0x04 same r.info))

pub record FitsResponse (r : ResponseForm) : Type 0 where
  pub id : FitsTagged same (Passes is_integer) r.id
  pub status : FitsTagged status_content FitsStatus r.status
  pub pair : FitsOptional pair_content FitsPair r.pair
  pub info : FitsOptional same IsAnything r.info

-- what is shown of a response: its certificate where it is there and not encrypted
pub record ShownForm : Type 0 where
  pub id : List ℕ
  pub status : StatusForm
  pub cert : Option (List ℕ)

abbrev pub plain_cert : CertForm → Option (List ℕ)
plain_cert (certificate octets) = Some octets
plain_cert (encrypted octets) = None

abbrev pub cert_in : Option PairForm → Option (List ℕ)
cert_in None = None
cert_in (Some p) = plain_cert p.cert

abbrev pub shown_of : ResponseForm → ShownForm
shown_of r = record { id = r.id; status = r.status; cert = cert_in r.pair }

-- what is shown of a CertRepMessage: the certificates of caPubs, how many responses there are, and the first one
pub record RepForm : Type 0 where
  pub ca_pubs : Option (List ℕ)
  pub row : RowForm ShownForm

abbrev pub ca_pubs_spelling : Option (List ℕ) → List ℕ
ca_pubs_spelling = optional_spelling 0xA1 (tagged 0x30 same)

abbrev pub FitsCaPubs : Option (List ℕ) → Type 0
FitsCaPubs = FitsOptional (tagged 0x30 same) (FitsTagged same IsCertificates)

-- The content is that of a CertRepMessage: caPubs [1], which may be left out, and a SEQUENCE of these responses.
pub record IsCertRep (content : List ℕ) (rep : RepForm) : Type 0 where
  pub responses : List ResponseForm
  pub fit : FitsEntries response_content FitsResponse responses
  pub counted : length (entries_spelling 0x30 response_content responses) < 2 ^ 32
  pub ca_pubs : FitsCaPubs rep.ca_pubs
  pub spelled : content ≡ ca_pubs_spelling rep.ca_pubs ++ element 0x30 (entries_spelling 0x30 response_content responses)
  pub shown : rep.row ≡ row_of (map shown_of responses)

-- what was read shows
abbrev pub cert_of : CertOrEncCert → CertForm
cert_of (variant.Certificate octets) = certificate octets.now
cert_of (variant.Encrypted octets) = encrypted octets.now

abbrev pub pair_of : KeyPair → PairForm
pair_of p = record { cert = cert_of p.cert; key = option_copied p.key; publication = option_copied p.publication }

abbrev pub response_of : Response → ResponseForm
response_of r = record { id = r.id.now; status = status_of r.status; pair = option_map pair_of r.pair; info = option_copied r.info }

abbrev pub shown_by : CertResponse → ShownForm
shown_by r = record { id = r.id.now; status = status_of r.status; cert = option_copied r.cert }

abbrev pub rep_of : CertRep → RepForm
rep_of r = record { ca_pubs = option_copied r.ca_pubs; row = record { count = r.count; first = option_map shown_by r.first } }

-- what is read
unfoldable pub certificate_at : List ℕ → Option (List ℕ)
certificate_at content = do
  p ← sole_at 0x30 content
  if are_elements p.content then Some p.whole else None

unfoldable pub any_alone_at : List ℕ → Option (List ℕ)
any_alone_at content = do
  p ← ok_of (whole_at content)
  Some p.whole

-- a certificate where one stands at the front, and else one that is encrypted, and what follows it
abbrev pub cert_or : Option (List ℕ) × List ℕ → Option (CertForm × List ℕ)
cert_or (Some octets, rest) = Some (certificate octets, rest)
cert_or (None, rest) = do
  e ← required_with any_alone_at 0xA1 rest
  Some (encrypted e.0, e.1)

unfoldable pub cert_front_at : List ℕ → Option (CertForm × List ℕ)
cert_front_at bytes = optional_with certificate_at 0xA0 bytes >>= cert_or

unfoldable pub pair_at : List ℕ → Option PairForm
pair_at content = do
  cert ← cert_front_at content
  key ← optional_with any_alone_at 0xA0 cert.1
  publication ← optional_with any_alone_at 0xA1 key.1
  if length publication.1 == 0 then Some (record { cert = cert.0; key = key.0; publication = publication.0 }) else None

unfoldable pub response_at : List ℕ → Option ResponseForm
response_at content = do
  id ← required_with (tested_at is_integer) 0x02 content
  status ← required_with status_at 0x30 id.1
  pair ← optional_with pair_at 0x30 status.1
  info ← optional_with anything_at 0x04 pair.1
  if length info.1 == 0 then Some (record { id = id.0; status = status.0; pair = pair.0; info = info.0 }) else None

abbrev pub shown_row : RowForm ResponseForm → RowForm ShownForm
shown_row r = record { count = r.count; first = option_map shown_of r.first }

unfoldable pub rep_at : List ℕ → Option RepForm
rep_at content = do
  ca_pubs ← optional_with (sole_with (tested_at are_certificates) 0x30) 0xA1 content
  s ← sole_at 0x30 ca_pubs.1
  row ← row_at response_at 0x30 s.content
  Some (record { ca_pubs = ca_pubs.0; row = shown_row row })

-- what is written: one response, with a whole status, and with a whole certificate or none
abbrev pub pair_octets : Option (List ℕ) → List ℕ
pair_octets None = []
pair_octets (Some cert) = element 0x30 (element 0xA0 cert)

abbrev pub response_octets : ℤ → List ℕ → Option (List ℕ) → List ℕ
response_octets id status cert = element 0x02 (id_octets id) ++ (status ++ pair_octets cert)

abbrev pub rep_octets : Option (List ℕ) → ℤ → List ℕ → Option (List ℕ) → List ℕ
rep_octets ca_pubs id status cert = ca_pubs_spelling ca_pubs ++ element 0x30 (element 0x30 (response_octets id status cert))

-- what is read again of it
abbrev pub written_response : ℤ → StatusForm → Option (List ℕ) → ShownForm
written_response id status cert = record { id = id_octets id; status = status; cert = cert }

abbrev pub written_rep : Option (List ℕ) → ℤ → StatusForm → Option (List ℕ) → RepForm
written_rep ca_pubs id status cert = record { ca_pubs = ca_pubs; row = row_of (written_response id status cert ∷ []) }

-- The parts that are written have the forms of their types.
pub record IsWritten (ca_pubs : Option (List ℕ)) (status : List ℕ) (form : StatusForm) (cert : Option (List ℕ)) : Type 0 where
  pub ca_pubs_fit : IfSome ca_pubs IsCertificates
  pub status_fits : FitsStatus form
  pub status_is : IsElement status 0x30 (status_content form)
  pub cert_is : IfSome cert IsWholeCertificate
