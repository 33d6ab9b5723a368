-- Certificates under HSS/LMS (RFC 9802) from the fields of a plan.
use Rattle.std.specs.Prelude.{◌≡◌, ℕ, ◌^◌, ◌<◌, ◌++◌, IsTrue, List, [], ◌∷◌, length, None}
use Rattle.der_base.specs.Element.{element}
use Rattle.asn_types.specs.Algorithm.{Algorithm, algorithm_content}
use Rattle.asn_types.specs.Extension.{is_extensions}
use Rattle.asn_types.specs.Oids.{dotted}
use Rattle.asn_types.specs.Template.{IsWholeName}
use Rattle.asn_parts.specs.Parts.{FitsTagged}
use Rattle.asn_parts.specs.Number.{number_octets}
use Rattle.x509_cert.specs.Cert.{TbsForm, CertForm, FitsCert, IsWholeKey, tbs_octets, cert_content, cert_octets}
use Rattle.x509_cert.specs.Validity.{IsValidity}
use Rattle.x509_cert.specs.declared.plan.CertPlan.{CertPlan}

-- HSS/LMS, 1.2.840.113549.1.9.16.3.17, whose parameters are absent (RFC 9708, 4)
abbrev pub hss_lms : Algorithm
hss_lms = record { oid = dotted (1 ∷ 2 ∷ 840 ∷ 113549 ∷ 1 ∷ 9 ∷ 16 ∷ 3 ∷ 17 ∷ []); params = None }

-- the signed part of a plan, whose times stand in this content
abbrev pub planned : CertPlan → List ℕ → TbsForm
planned p validity = record {
  serial = number_octets p.serial;
  alg = hss_lms;
  issuer = p.issuer;
  validity = validity;
  subject = p.subject;
  spki = p.spki;
  exts = p.exts;
}

-- The octets are the signed part of a plan, its fields put in as they stand.
pub record IsPlanned (p : CertPlan) (octets : List ℕ) : Type 0 where
  pub validity : List ℕ
  pub dated : IsValidity validity p.not_before p.not_after
  pub spelled : octets ≡ tbs_octets (planned p validity)

-- the certificate of a signed part and a signature, whose octets are all used
abbrev pub signed_octets : List ℕ → List ℕ → List ℕ
signed_octets tbs sig = element 0x30 (tbs ++ (element 0x30 (algorithm_content hss_lms) ++ element 0x03 (0 ∷ sig)))

-- what the certificate of a plan says
abbrev pub planned_cert : CertPlan → List ℕ → List ℕ → CertForm
planned_cert p validity sig = record { tbs = planned p validity; sig_alg = hss_lms; sig = 0 ∷ sig }

-- The fields that stand as they are have the forms of their types.
pub record FitsPlan (p : CertPlan) : Type 0 where
  pub serial : p.serial < 2 ^ 64
  pub issuer : IsWholeName p.issuer
  pub subject : IsWholeName p.subject
  pub spki : IsWholeKey p.spki
  pub exts : IsTrue (is_extensions p.exts)

-- What is written of a plan that fits is the spelling of what the plan says, and fits.
abbrev pub WrittenIsRead : Type 0
WrittenIsRead = (p : CertPlan) (tbs sig octets : List ℕ) → FitsPlan p → IsPlanned p tbs → octets ≡ signed_octets tbs sig → length octets < 2 ^ 32
    → (validity : List ℕ) × IsValidity validity p.not_before p.not_after
    × FitsTagged cert_content FitsCert (planned_cert p validity sig) × (octets ≡ cert_octets (planned_cert p validity sig))
