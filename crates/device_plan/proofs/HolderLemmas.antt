-- What is read of a certificate is what it says.
use Rattle.std.proofs.Common.{◌≡◌, ℕ, ◌+◌, ◌<◌, ◌≤◌, ◌^◌, ◌++◌, List, length, ap, ◌∙◌, arith}
use Rattle.der_base.specs.Element.{element}
use Rattle.asn_parts.specs.Parts.{sole_with}
use Rattle.asn_parts.proofs.PartLemmas.{sole_is_read}
use Rattle.asn_types.specs.Algorithm.{algorithm_content}
use Rattle.asn_types.specs.Key.{Key, FitsKey, key_at, key_content}
use Rattle.asn_types.proofs.KeyLemmas.{key_is_read}
use Rattle.asn_types.proofs.LengthLemmas.{length_element_lt, front_le, back_le}
use Rattle.x509_cert.specs.Cert.{TbsForm, CertForm, version_octets, tbs_content, tbs_octets, cert_content, cert_octets}
use Rattle.device_plan.specs.Plans.{list_limit, bits_of}

-- the subject and the key stand in the certificate
tail_within : (t : TbsForm) → length (t.subject ++ (t.spki ++ element 0xA3 (element 0x30 t.exts))) ≤ length (tbs_content t)
tail_within t =
    let keyed : List ℕ = t.spki ++ element 0xA3 (element 0x30 t.exts) in
    let named : List ℕ = t.subject ++ keyed in
    let dated : List ℕ = element 0x30 t.validity ++ named in
    let issued : List ℕ = t.issuer ++ dated in
    let signed : List ℕ = element 0x30 (algorithm_content t.alg) ++ issued in
    let numbered : List ℕ = element 0x02 t.serial ++ signed in
    omega (
      arith,
      back_le (element 0x30 t.validity) named,
      back_le t.issuer dated,
      back_le (element 0x30 (algorithm_content t.alg)) issued,
      back_le (element 0x02 t.serial) signed,
      back_le version_octets numbered,
    )

tbs_within : (c : CertForm) → length (tbs_content c.tbs) ≤ length (cert_octets c)
tbs_within c =
    let sealed : List ℕ = element 0x30 (algorithm_content c.sig_alg) ++ element 0x03 c.sig in
    omega (arith, length_element_lt 0x30 (tbs_content c.tbs), front_le (tbs_octets c.tbs) sealed, length_element_lt 0x30 (cert_content c))

pub subject_within : (c : CertForm) → length c.tbs.subject ≤ length (cert_octets c)
subject_within c = omega (arith, front_le c.tbs.subject (c.tbs.spki ++ element 0xA3 (element 0x30 c.tbs.exts)), tail_within c.tbs, tbs_within c)

spki_within : (c : CertForm) → length c.tbs.spki ≤ length (cert_octets c)
spki_within c =
    let keyed : List ℕ = c.tbs.spki ++ element 0xA3 (element 0x30 c.tbs.exts) in
    omega (arith, front_le c.tbs.spki (element 0xA3 (element 0x30 c.tbs.exts)), back_le c.tbs.subject keyed, tail_within c.tbs, tbs_within c)

-- the key is read of its element
pub key_alone : (c : CertForm) (content : List ℕ) (k : Key) → c.tbs.spki ≡ element 0x30 content → FitsKey k → content ≡ key_content k → length (cert_octets c) ≤ list_limit
    → bits_of (sole_with key_at 0x30 c.tbs.spki) ≡ k.key
key_alone c content k e fits is short =
    let counted : length (key_content k) < 2 ^ 32 = omega (arith, length_element_lt 0x30 content, ap (λ (l : List ℕ). length l) e, ap (λ (l : List ℕ). length l) is, spki_within c, short) in
    let read = (sole_is_read key_at 0x30 key_content FitsKey (omega arith) key_is_read).again k (fits, counted) in
    ap (λ (l : List ℕ). bits_of (sole_with key_at 0x30 l)) (e ∙ ap (element 0x30) is) ∙ ap bits_of read
