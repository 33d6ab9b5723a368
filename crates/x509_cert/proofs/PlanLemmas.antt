-- How long the signed part of a plan is, and that what is written of a plan that fits is a certificate.
use Rattle.std.proofs.Common.{◌≡◌, ℕ, ◌+◌, ◌^◌, ◌<◌, ◌≤◌, ◌++◌, IsTrue, List, [], ◌∷◌, length, refl, ap, ◌∙◌, arith}
use Rattle.std.proofs.lemmas.List.{length-append}
use Rattle.der_base.specs.Element.{element, length_octets}
use Rattle.der_base.specs.Values.{is_oid, is_bits}
use Rattle.asn_types.specs.Algorithm.{FitsAlgorithm, algorithm_content}
use Rattle.asn_types.proofs.LengthLemmas.{length_element_le, length_element_lt}
use Rattle.asn_parts.specs.Number.{number_octets}
use Rattle.asn_parts.specs.Parts.{FitsTagged}
use Rattle.asn_parts.proofs.NumberLemmas.{number_form, number_size}
use Rattle.x509_cert.specs.Cert.{FitsTbs, FitsCert, version_octets, tbs_content, cert_content, cert_octets}
use Rattle.x509_cert.specs.Plan.{hss_lms, planned, planned_cert, FitsPlan, WrittenIsRead, signed_octets}
use Rattle.x509_cert.specs.declared.plan.CertPlan.{CertPlan}

version_length : length version_octets ≡ 5
unfolding element length_octets
version_length = refl

algorithm_length : length (element 0x30 (algorithm_content hss_lms)) ≡ 15
unfolding element length_octets
algorithm_length = refl

-- a row of eight
row_length : (a b c d e f g h : List ℕ) → length (a ++ (b ++ (c ++ (d ++ (e ++ (f ++ (g ++ h))))))) ≡ length a + (length b + (length c + (length d + (length e + (length f + (length g + length h))))))
row_length a b c d e f g h =
    omega (
      arith,
      length-append a (b ++ (c ++ (d ++ (e ++ (f ++ (g ++ h)))))),
      length-append b (c ++ (d ++ (e ++ (f ++ (g ++ h))))),
      length-append c (d ++ (e ++ (f ++ (g ++ h)))),
      length-append d (e ++ (f ++ (g ++ h))),
      length-append e (f ++ (g ++ h)),
      length-append f (g ++ h),
      length-append g h,
    )

pub tbs_short : (p : CertPlan) (dates : List ℕ) → length (number_octets p.serial) ≤ 9 → length dates < 64
    → length (tbs_content (planned p dates)) ≤ length p.issuer + length p.subject + length p.spki + length p.exts + 117
tbs_short p dates serial short =
    omega (
      arith,
      row_length version_octets (element 0x02 (number_octets p.serial)) (element 0x30 (algorithm_content hss_lms)) p.issuer (element 0x30 dates) p.subject p.spki (element 0xA3 (element 0x30 p.exts)),
      version_length,
      algorithm_length,
      length_element_le 0x02 (number_octets p.serial),
      length_element_le 0x30 dates,
      length_element_le 0xA3 (element 0x30 p.exts),
      length_element_le 0x30 p.exts,
    )

-- HSS/LMS is an algorithm
hss_identifier : IsTrue (is_oid hss_lms.oid)
unfolding is_oid
hss_identifier = refl

hss_fits : FitsTagged algorithm_content FitsAlgorithm hss_lms
hss_fits = (record { identifier = hss_identifier; counted = omega arith; params = tt }, omega (arith, length_element_lt 0x30 (algorithm_content hss_lms), algorithm_length))

plain_bits : (octets : List ℕ) → IsTrue (is_bits (0 ∷ octets))
plain_bits [] = refl
plain_bits (b ∷ more) = grind arith

tbs_fits : (p : CertPlan) (validity : List ℕ) → FitsPlan p → length (tbs_content (planned p validity)) < 2 ^ 32 → FitsTbs (planned p validity)
tbs_fits p validity fits total =
    let row = row_length version_octets (element 0x02 (number_octets p.serial)) (element 0x30 (algorithm_content hss_lms)) p.issuer (element 0x30 validity) p.subject p.spki (element 0xA3 (element 0x30 p.exts)) in
    let dates : length validity < 2 ^ 32 = omega (arith, row, length_element_lt 0x30 validity) in
    let outer : length (element 0x30 p.exts) < 2 ^ 32 = omega (arith, row, length_element_lt 0xA3 (element 0x30 p.exts)) in
    let inner : length p.exts < 2 ^ 32 = omega (arith, outer, length_element_lt 0x30 p.exts) in
    record {
      serial = (number_form p.serial fits.serial, omega (arith, number_size p.serial));
      alg = hss_fits;
      issuer = fits.issuer;
      validity = (tt, dates);
      subject = fits.subject;
      spki = fits.spki;
      exts = ((fits.exts, inner), outer);
    }

cert_fits : (p : CertPlan) (validity sig : List ℕ) → FitsPlan p → length (cert_content (planned_cert p validity sig)) < 2 ^ 32 → FitsCert (planned_cert p validity sig)
cert_fits p validity sig fits total =
    let content : List ℕ = tbs_content (planned p validity) in
    let row = length-append (element 0x30 content) (element 0x30 (algorithm_content hss_lms) ++ element 0x03 (0 ∷ sig)) in
    let tail = length-append (element 0x30 (algorithm_content hss_lms)) (element 0x03 (0 ∷ sig)) in
    let tbs : length content < 2 ^ 32 = omega (arith, row, length_element_lt 0x30 content) in
    let bits : length (0 ∷ sig) < 2 ^ 32 = omega (arith, row, tail, length_element_lt 0x03 (0 ∷ sig)) in
    record { tbs = (tbs_fits p validity fits tbs, tbs); sig_alg = hss_fits; sig = (plain_bits sig, bits) }

-- The law of writing.
pub plan_is_read : WrittenIsRead
plan_is_read p tbs sig octets fits is e long =
    let v : List ℕ = is.validity in
    let spelled : octets ≡ cert_octets (planned_cert p v sig) = e ∙ ap (λ (l : List ℕ). signed_octets l sig) is.spelled in
    let total : length (cert_content (planned_cert p v sig)) < 2 ^ 32 = omega (arith, ap (λ (l : List ℕ). length l) spelled, length_element_lt 0x30 (cert_content (planned_cert p v sig))) in
    (v, is.dated, (cert_fits p v sig fits total, total), spelled)

-- what was put behind nothing fits a length
pub fields_counted : (p : CertPlan) (w0 w1 dates d : List ℕ) → w0 ≡ [] → w1 ≡ w0 ++ tbs_content (planned p d) → d ≡ dates → length dates < 64
    → length p.issuer + length p.subject + length p.spki + length p.exts + 128 < 2 ^ 32 → length w1 < 2 ^ 32
fields_counted p w0 w1 dates d empty put same_dates short long =
    let all : w1 ≡ tbs_content (planned p d) = put ∙ ap (λ (l : List ℕ). l ++ tbs_content (planned p d)) empty in
    let size : length d < 64 = omega (arith, short, ap (λ (l : List ℕ). length l) same_dates) in
    omega (arith, long, ap (λ (l : List ℕ). length l) all, tbs_short p d (number_size p.serial) size)
