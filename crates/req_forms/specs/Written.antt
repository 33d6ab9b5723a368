-- The requests that are written: of one key, under the signature algorithm HSS/LMS (RFC 9708, 4) or an RA's word.
use Rattle.std.specs.Prelude.{◌≡◌, ℕ, ◌^◌, ◌<◌, ◌++◌, ◌⊎◌, IsTrue, IfSome, List, [], ◌∷◌, length, Option, Some, None}
use Rattle.der_base.specs.Element.{element, IsElement}
use Rattle.der_base.specs.Reading.{part}
use Rattle.asn_types.specs.Extension.{is_extensions}
use Rattle.asn_types.specs.Key.{Key, FitsKey, key_content}
use Rattle.asn_types.specs.Template.{TemplateForm, IsWholeName}
use Rattle.asn_parts.specs.Number.{number_octets}
use Rattle.req_forms.specs.Controls.{OldCertForm, ControlsForm, old_cert_id}
use Rattle.req_forms.specs.Possession.{signature_element, SigningForm, PopoForm, by_ra, signed}
use Rattle.req_forms.specs.Requests.{RequestForm, ReqForm, old_in}
use Rattle.req_forms.specs.Attributes.{extension_request_id}
use Rattle.req_forms.specs.Pkcs10.{InfoForm, P10Form}
use Rattle.req_forms.specs.declared.wish.CrmfWish.{CrmfWish}
use Rattle.req_forms.specs.declared.wish.Proof.{Proof}
use Rattle.req_forms.specs.declared.wish.Proof.TheVariants as variant

-- id-alg-hss-lms-hashsig, 1.2.840.113549.1.9.16.3.17
unfoldable pub hss_lms : List ℕ
hss_lms = 0x2a ∷ 0x86 ∷ 0x48 ∷ 0x86 ∷ 0xf7 ∷ 0x0d ∷ 0x01 ∷ 0x09 ∷ 0x10 ∷ 0x03 ∷ 0x11 ∷ []

-- its AlgorithmIdentifier, without parameters
abbrev pub hss_algorithm : List ℕ
hss_algorithm = element 0x30 (element 0x06 hss_lms)

-- an element under another tag, as an implicit tag has it (X.690, 8.14.3)
abbrev pub retagged : ℕ → List ℕ → List ℕ
retagged tag [] = []
retagged tag (first ∷ rest) = tag ∷ rest

-- the extensions of a template, which are left out where there are none
abbrev pub template_extensions : List ℕ → List ℕ
template_extensions [] = []
template_extensions (b ∷ more) = element 0xA9 (b ∷ more)

-- what stands in the template: the subject [5], the key [6] and the extensions [9] (RFC 4211, 5)
abbrev pub template_octets : List ℕ → List ℕ → List ℕ → List ℕ
template_octets subject spki exts = element 0xA5 subject ++ (retagged 0xA6 spki ++ template_extensions exts)

-- the issuer, a directory name, and the serial number of the certificate that is updated
abbrev pub old_octets : List ℕ → ℕ → List ℕ
old_octets issuer serial = element 0xA4 issuer ++ element 0x02 (number_octets serial)

-- the controls: one oldCertID, or none
abbrev pub control_octets : List ℕ → Option ℕ → List ℕ
control_octets issuer None = []
control_octets issuer (Some serial) = element 0x30 (element 0x30 (element 0x06 old_cert_id ++ element 0x30 (old_octets issuer serial)))

-- what stands in the CertRequest, whose certReqId is 0
abbrev pub request_octets : CrmfWish → List ℕ
request_octets w = element 0x02 (0 ∷ []) ++ (element 0x30 (template_octets w.subject w.spki w.exts) ++ control_octets w.issuer w.old)

abbrev pub proof_octets : Proof → List ℕ
proof_octets variant.RaVerified = element 0x80 []
proof_octets (variant.Signature sig) = element 0xA1 (hss_algorithm ++ signature_element sig)

-- CertReqMessages with one message: a CertRequest as it stands, and its proof
abbrev pub around_octets : List ℕ → Proof → List ℕ
around_octets request proof = element 0x30 (element 0x30 (request ++ proof_octets proof))

-- CertReqMessages with the one request of a wish
abbrev pub crmf_octets : CrmfWish → List ℕ
crmf_octets w = around_octets (element 0x30 (request_octets w)) w.proof

-- the attributes: one extensionRequest, or none
abbrev pub asked_octets : List ℕ → List ℕ
asked_octets [] = []
asked_octets (b ∷ more) = element 0x30 (element 0x06 extension_request_id ++ element 0x31 (element 0x30 (b ∷ more)))

-- a CertificationRequestInfo of version 0
abbrev pub info_octets : CrmfWish → List ℕ
info_octets w = element 0x30 (element 0x02 (0 ∷ []) ++ (w.subject ++ (w.spki ++ element 0xA0 (asked_octets w.exts))))

-- a CertificationRequest over an info
abbrev pub p10_octets : List ℕ → List ℕ → List ℕ
p10_octets info sig = element 0x30 (info ++ (hss_algorithm ++ signature_element sig))

-- What a wish asks for, where its parts have the forms of their types: the subject, a name, the key, and the extensions.
pub record IsAsked (w : CrmfWish) (key : Key) : Type 0 where
  pub subject : IsWholeName w.subject
  pub key_fits : FitsKey key
  pub spki : IsElement w.spki 0x30 (key_content key)
  pub exts : (w.exts ≡ []) ⊎ IsTrue (is_extensions w.exts)

-- And the certificate that it updates, where it names one, has a name as its issuer and a serial number of at most 64 bits.
pub record IsWish (w : CrmfWish) (key : Key) : Type 0 where
  pub asked : IsAsked w key
  pub old : IfSome w.old (λ n. IsWholeName w.issuer × (n < 2 ^ 64))

-- what is read again: the extensions
abbrev pub wished_exts : List ℕ → Option (List ℕ)
wished_exts [] = None
wished_exts (b ∷ more) = Some (b ∷ more)

-- the template
abbrev pub wished_template : CrmfWish → Key → TemplateForm
wished_template w key = record {
  version = None;
  serial = None;
  alg = None;
  issuer = None;
  validity = None;
  subject = Some w.subject;
  key = Some key;
  issuer_uid = None;
  subject_uid = None;
  exts = wished_exts w.exts;
}

-- the certificate that is updated
abbrev pub wished_old : List ℕ → ℕ → OldCertForm
wished_old issuer serial = record { issuer = part 0xA4 issuer; serial = number_octets serial }

-- the controls
abbrev pub wished_controls : List ℕ → Option ℕ → Option ControlsForm
wished_controls issuer None = None
wished_controls issuer (Some serial) = Some (record {
  octets = element 0x30 (element 0x06 old_cert_id ++ element 0x30 (old_octets issuer serial));
  old = Some (wished_old issuer serial);
})

-- the CertRequest
abbrev pub wished_request : CrmfWish → Key → RequestForm
wished_request w key = record { id = 0 ∷ []; template = wished_template w key; controls = wished_controls w.issuer w.old }

-- the proof
abbrev pub wished_signing : List ℕ → SigningForm
wished_signing sig = record { input = None; alg = record { oid = hss_lms; params = None }; sig = sig }

abbrev pub wished_popo : Proof → PopoForm
wished_popo variant.RaVerified = by_ra
wished_popo (variant.Signature sig) = signed (wished_signing sig)

-- and of a request as it stands, in which this is, under a proof
abbrev pub around_req : List ℕ → RequestForm → Proof → ReqForm
around_req request inside proof = record {
  id = inside.id;
  request = request;
  template = inside.template;
  old = old_in inside.controls;
  popo = wished_popo proof;
}

-- and of the request of a wish
abbrev pub wished_req : CrmfWish → Key → ReqForm
wished_req w key = around_req (element 0x30 (request_octets w)) (wished_request w key) w.proof

-- what is read again of an info that was written
abbrev pub wished_info : CrmfWish → Key → InfoForm
wished_info w key = record {
  version = 0 ∷ [];
  subject = w.subject;
  key = key;
  attributes = record { octets = asked_octets w.exts; exts = wished_exts w.exts };
}

-- and of a request over an info
abbrev pub written_p10 : List ℕ → InfoForm → List ℕ → P10Form
written_p10 info inside sig = record { info = info; inside = inside; alg = record { oid = hss_lms; params = None }; sig = sig }
