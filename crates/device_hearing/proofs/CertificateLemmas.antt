-- What is read of certificates is what they say, and no other one is there.
use Rattle.std.proofs.Common.{◌≡◌, ℕ, ◌<◌, ◌≤◌, ◌^◌, ◌++◌, List, [], ◌∷◌, length, Option, Some, None, Result, Ok, Err, refl, sym, ap, subst, ◌∙◌, arith}
use Rattle.der_base.specs.Element.{element, IsElement}
use Rattle.der_base.specs.Reading.{Part, part}
use Rattle.der_base.specs.declared.fault.DerFault.{DerFault}
use Rattle.asn_fields.proofs.FieldLemmas.{some_same}
use Rattle.asn_parts.specs.Parts.{FitsTagged, sole_with}
use Rattle.asn_parts.proofs.PartLemmas.{sole_is_read}
use Rattle.asn_types.specs.Algorithm.{algorithm_content}
use Rattle.asn_types.specs.Key.{Key, FitsKey, key_at, key_content, spki_content}
use Rattle.asn_types.proofs.KeyLemmas.{key_is_read}
use Rattle.asn_types.proofs.LengthLemmas.{length_element_lt, length_element_le, front_le, back_le}
use Rattle.std.proofs.lemmas.List.{length-append}
use Rattle.x509_cert.specs.Cert.{TbsForm, CertForm, FitsCert, version_octets, tbs_content, cert_content}
use Rattle.protect.specs.Algorithms.{hss_oid, hss_lms}
use Rattle.protect.proofs.AlgorithmLemmas.{hss_fits, hss_short}
use Rattle.device_hearing.specs.Trust.{IsCertificate, IsAbout}

-- ---- certificates

-- what is read of octets that are a certificate
abbrev pub form_in : Option (CertForm × ℕ × ℕ) → Option CertForm
form_in None = None
form_in (Some r) = Some r.0

pub form_read : (a b : Option (CertForm × ℕ × ℕ)) → a ≡ b → form_in b ≡ form_in a
form_read a b e = sym (ap form_in e)

-- the certificate as an element
pub as_element : (octets : List ℕ) (c : CertForm) → IsCertificate octets c → IsElement octets 0x30 (cert_content c)
as_element octets c h = record { low_tag = omega arith; counted = h.fits.1; spelled = h.spelled }

-- the element that stands first in a row is the certificate that does
whole_in : Result (Part × List ℕ) DerFault → List ℕ
whole_in (Ok r) = r.0.whole
whole_in (Err f) = []

pub first_read : (octets others rest : List ℕ) (c : CertForm) (p : Part) → IsCertificate octets c
    → ◌≡◌ {A = Result (Part × List ℕ) DerFault} (Ok (part 0x30 (cert_content c), others)) (Ok (p, rest)) → IsCertificate p.whole c
unfolding whole_in element
first_read octets others rest c p h e = record { fits = h.fits; from = h.from; to = h.to; dated = h.dated; spelled = sym (ap whole_in e) }

-- ---- keys

spki_within : (t : TbsForm) → length t.spki ≤ length (tbs_content t)
spki_within t =
    let keyed : List ℕ = t.spki ++ element 0xA3 (element 0x30 t.exts) in
    let named : List ℕ = t.subject ++ keyed in
    let dated : List ℕ = element 0x30 t.validity ++ named in
    let issued : List ℕ = t.issuer ++ dated in
    let signed : List ℕ = element 0x30 (algorithm_content t.alg) ++ issued in
    let numbered : List ℕ = element 0x02 t.serial ++ signed in
    omega (
      arith,
      front_le t.spki (element 0xA3 (element 0x30 t.exts)),
      back_le t.subject keyed,
      back_le (element 0x30 t.validity) named,
      back_le t.issuer dated,
      back_le (element 0x30 (algorithm_content t.alg)) issued,
      back_le (element 0x02 t.serial) signed,
      back_le version_octets numbered,
    )

-- a certificate is about the key that is read of it
pub about_read : (c : CertForm) (content : List ℕ) (k : Key) → FitsTagged cert_content FitsCert c → c.tbs.spki ≡ element 0x30 content → FitsKey k → content ≡ key_content k → IsAbout c k
about_read c content k whole e fits is =
    let short : length content < 2 ^ 32 = omega (arith, length_element_lt 0x30 content, ap (λ (l : List ℕ). length l) e, spki_within c.tbs, whole.0.tbs.1) in
    record { fits = fits; alone = record { low_tag = omega arith; counted = subst (λ (l : List ℕ). length l < 2 ^ 32) is short; spelled = e ∙ ap (element 0x30) is } }

-- and about no other one
key_in : (c : CertForm) (k : Key) → IsAbout c k → sole_with key_at 0x30 c.tbs.spki ≡ Some k
key_in c k h =
    ap (λ (l : List ℕ). sole_with key_at 0x30 l) h.alone.spelled
    ∙ (sole_is_read key_at 0x30 key_content FitsKey (omega arith) key_is_read).again k (h.fits, h.alone.counted)

pub about_one : (c : CertForm) (j k : Key) → IsAbout c j → IsAbout c k → j ≡ k
about_one c j k h i = some_same j k (sym (key_in c j h) ∙ key_in c k i)

-- ---- keys of HSS

abbrev hss_key : List ℕ → Key
hss_key key = record { alg = hss_lms; key = key; content = spki_content hss_lms key }

hss_small : length (algorithm_content hss_lms) ≤ 17
unfolding hss_oid
hss_small = omega (arith, length-append (element 0x06 hss_oid) [], length_element_le 0x06 hss_oid)

hss_counted : (key : List ℕ) → length key ≡ 60 → length (spki_content hss_lms key) < 2 ^ 32
hss_counted key size =
    omega (arith, hss_small, length-append (element 0x30 (algorithm_content hss_lms)) (element 0x03 (0 ∷ key)), length_element_le 0x30 (algorithm_content hss_lms), length_element_le 0x03 (0 ∷ key), size)

hss_about : (c : CertForm) (key : List ℕ) → length key ≡ 60 → c.tbs.spki ≡ element 0x30 (spki_content hss_lms key) → IsAbout c (hss_key key)
hss_about c key size e = record {
  fits = record { whole = refl; alg = hss_fits; alg_counted = hss_short; key_counted = omega (arith, size) };
  alone = record { low_tag = omega arith; counted = hss_counted key size; spelled = e };
}

pub about_hss : (c : CertForm) (k : Key) (key : List ℕ) → length key ≡ 60 → IsAbout c k → c.tbs.spki ≡ element 0x30 (spki_content hss_lms key) → (k.alg ≡ hss_lms) × (k.key ≡ key)
about_hss c k key size h e =
    let same = about_one c k (hss_key key) h (hss_about c key size e) in
    (ap (λ (x : Key). x.alg) same, ap (λ (x : Key). x.key) same)

pub hss_spelled : (c : CertForm) (k : Key) (key : List ℕ) → IsAbout c k → k.alg ≡ hss_lms → k.key ≡ key → c.tbs.spki ≡ element 0x30 (spki_content hss_lms key)
hss_spelled c k key h alg same = h.alone.spelled ∙ cc
