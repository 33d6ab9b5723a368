-- How long the signed part of a plan is, and a certificate.
use Rattle.std.proofs.Common.{◌≡◌, ℕ, ◌+◌, ◌<◌, ◌≤◌, ◌++◌, List, ◌∷◌, length, ap, arith, refl}
use Rattle.std.proofs.lemmas.List.{length-append}
use Rattle.der_base.specs.Element.{element, length_octets}
use Rattle.asn_types.specs.Algorithm.{algorithm_content}
use Rattle.asn_types.proofs.LengthLemmas.{length_element_le}
use Rattle.asn_parts.proofs.NumberLemmas.{number_size}
use Rattle.x509_cert.specs.Cert.{tbs_content}
use Rattle.x509_cert.specs.Plan.{hss_lms, planned, IsPlanned, signed_octets}
use Rattle.x509_cert.specs.Validity.{IsValidity, time_tag}
use Rattle.x509_cert.specs.declared.plan.CertPlan.{CertPlan}
use Rattle.x509_cert.proofs.PlanLemmas.{tbs_short}
use Rattle.x509_cert.proofs.ValidityLemmas.{time_short}

dates_short : (content : List ℕ) (from to : ℕ) → IsValidity content from to → length content < 64
dates_short content from to h =
    omega (
      arith,
      ap (λ (l : List ℕ). length l) h.parts,
      length-append (element (time_tag from) h.first) (element (time_tag to) h.last),
      length_element_le (time_tag from) h.first,
      length_element_le (time_tag to) h.last,
      time_short from h.first h.begins,
      time_short to h.last h.ends,
    )

pub plan_short : (p : CertPlan) (octets : List ℕ) → IsPlanned p octets → length octets ≤ length p.issuer + length p.subject + length p.spki + length p.exts + 128
plan_short p octets h =
    omega (
      arith,
      ap (λ (l : List ℕ). length l) h.spelled,
      length_element_le 0x30 (tbs_content (planned p h.validity)),
      tbs_short p h.validity (number_size p.serial) (dates_short h.validity p.not_before p.not_after h.dated),
    )

algorithm_length : length (element 0x30 (algorithm_content hss_lms)) ≡ 15
unfolding element length_octets
algorithm_length = refl

pub signed_short : (tbs sig octets : List ℕ) → octets ≡ signed_octets tbs sig → length octets ≤ length tbs + length sig + 64
signed_short tbs sig octets h =
    omega (
      arith,
      ap (λ (l : List ℕ). length l) h,
      length_element_le 0x30 (tbs ++ (element 0x30 (algorithm_content hss_lms) ++ element 0x03 (0 ∷ sig))),
      length-append tbs (element 0x30 (algorithm_content hss_lms) ++ element 0x03 (0 ∷ sig)),
      length-append (element 0x30 (algorithm_content hss_lms)) (element 0x03 (0 ∷ sig)),
      algorithm_length,
      length_element_le 0x03 (0 ∷ sig),
    )
