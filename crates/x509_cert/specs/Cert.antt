-- Certificates (RFC 5280, 4.1) of version 3 alone, of any algorithm, with extensions and without unique identifiers.
use Rattle.std.specs.Prelude.{ℕ, ◌++◌, ◌&&◌, ◌==◌, Bool, false, if◌then◌else◌, List, [], ◌∷◌, Option, Some, None}
use Rattle.der_base.specs.Element.{element, IsElement}
use Rattle.der_base.specs.Values.{is_integer, is_bits}
use Rattle.asn_fields.specs.Fields.{◌>>=◌, field_at}
use Rattle.asn_types.specs.Algorithm.{Algorithm, FitsAlgorithm, algorithm_content, algorithm_of, algorithm_at}
use Rattle.asn_types.specs.Key.{Key, FitsKey, key_content, key_at}
use Rattle.asn_types.specs.Extension.{is_extensions}
use Rattle.asn_types.specs.Template.{IsWholeName, IsAnything, Passes, same, tested_at, anything_at}
use Rattle.asn_types.specs.declared.spki.Spki.{Spki}
use Rattle.asn_parts.specs.Parts.{tagged, FitsTagged, required_with, sole_with, name_front_at}
use Rattle.x509_cert.specs.declared.cert.Signed.{Signed}
use Rattle.x509_cert.specs.declared.cert.Parts.{Parts}
use Rattle.x509_cert.specs.declared.cert.Cert.{Cert}

-- what stands in the signed part: contents of elements, and the names and the key as whole elements
pub record TbsForm : Type 0 where
  pub serial : List ℕ
  pub alg : Algorithm
  pub issuer : List ℕ
  pub validity : List ℕ
  pub subject : List ℕ
  pub spki : List ℕ
  pub exts : List ℕ

-- what stands in a certificate. The signature is the content of its BIT STRING: the number of unused bits, and the octets.
pub record CertForm : Type 0 where
  pub tbs : TbsForm
  pub sig_alg : Algorithm
  pub sig : List ℕ

-- Version 3 is the number 2, in the tag [0] (4.1.2.1).
abbrev pub version_octets : List ℕ
version_octets = element 0xA0 (element 0x02 (2 ∷ []))

-- what stands in the SEQUENCE of the signed part, TBSCertificate: the extensions are in the tag [3]
abbrev pub tbs_content : TbsForm → List ℕ
tbs_content t =
    version_octets ++ (element 0x02 t.serial ++ (element 0x30 (algorithm_content t.alg) ++ (t.issuer
    ++ (element 0x30 t.validity ++ (t.subject ++ (t.spki ++ element 0xA3 (element 0x30 t.exts)))))))

abbrev pub tbs_octets : TbsForm → List ℕ
tbs_octets t = element 0x30 (tbs_content t)

-- what stands in the SEQUENCE of a certificate: the signed part, the algorithm and the signature
abbrev pub cert_content : CertForm → List ℕ
cert_content c = tbs_octets c.tbs ++ (element 0x30 (algorithm_content c.sig_alg) ++ element 0x03 c.sig)

abbrev pub cert_octets : CertForm → List ℕ
cert_octets c = element 0x30 (cert_content c)

-- The octets are the element of a key.
pub record IsWholeKey (octets : List ℕ) : Type 0 where
  pub key : Key
  pub fits : FitsKey key
  pub alone : IsElement octets 0x30 (key_content key)

-- Each field has the form of its type, and a length that fits.
pub record FitsTbs (t : TbsForm) : Type 0 where
  pub serial : FitsTagged same (Passes is_integer) t.serial
  pub alg : FitsTagged algorithm_content FitsAlgorithm t.alg
  pub issuer : IsWholeName t.issuer
  pub validity : FitsTagged same IsAnything t.validity
  pub subject : IsWholeName t.subject
  pub spki : IsWholeKey t.spki
  pub exts : FitsTagged (tagged 0x30 same) (FitsTagged same (Passes is_extensions)) t.exts

pub record FitsCert (c : CertForm) : Type 0 where
  pub tbs : FitsTagged tbs_content FitsTbs c.tbs
  pub sig_alg : FitsTagged algorithm_content FitsAlgorithm c.sig_alg
  pub sig : FitsTagged same (Passes is_bits) c.sig

-- what a key that was read shows
abbrev pub spki_of : Spki → List ℕ
spki_of s = element 0x30 s.content.now

-- what a certificate that was read shows
abbrev pub signed_of : Signed → TbsForm
signed_of s = record {
  serial = s.serial.now;
  alg = algorithm_of s.alg;
  issuer = s.issuer.whole.now;
  validity = s.validity.now;
  subject = s.subject.whole.now;
  spki = spki_of s.spki;
  exts = s.exts.content.now;
}

abbrev pub parts_of : Parts → CertForm
parts_of p = record { tbs = signed_of p.signed; sig_alg = algorithm_of p.sig_alg; sig = p.sig.unused ∷ p.sig.octets.now }

abbrev pub cert_of : Cert → CertForm
cert_of c = record {
  tbs = record {
    serial = c.serial.now;
    alg = algorithm_of c.alg;
    issuer = c.issuer.whole.now;
    validity = c.validity.now;
    subject = c.subject.whole.now;
    spki = spki_of c.spki;
    exts = c.exts.content.now;
  };
  sig_alg = algorithm_of c.sig_alg;
  sig = c.sig_unused ∷ c.sig.now;
}

-- and with it the first second and the last one
abbrev pub dated_of : Cert → CertForm × ℕ × ℕ
dated_of c = (cert_of c, c.not_before, c.not_after)

-- what is read: the number of version 3, and what follows it
abbrev pub is_version : List ℕ → Bool
is_version [] = false
is_version (a ∷ []) = false
is_version (a ∷ b ∷ []) = false
is_version (a ∷ b ∷ c ∷ []) = (a == 2) && ((b == 1) && (c == 2))
is_version (a ∷ b ∷ c ∷ d ∷ more) = false

unfoldable pub version_at : List ℕ → Option (List ℕ)
version_at bytes = do
  f ← field_at 0xA0 bytes
  if is_version f.0.content then Some f.1 else None

-- the whole element of a key at the front, and what follows it
unfoldable pub key_front_at : List ℕ → Option (List ℕ × List ℕ)
key_front_at bytes = do
  f ← field_at 0x30 bytes
  key ← key_at f.0.content
  Some (element 0x30 f.0.content, f.1)

-- the extensions
abbrev pub extensions_at : List ℕ → Option (List ℕ)
extensions_at = sole_with (sole_with (tested_at is_extensions) 0x30) 0xA3

unfoldable pub tbs_at : List ℕ → Option TbsForm
tbs_at content = do
  after ← version_at content
  serial ← required_with (tested_at is_integer) 0x02 after
  alg ← required_with algorithm_at 0x30 serial.1
  issuer ← name_front_at alg.1
  validity ← required_with anything_at 0x30 issuer.1
  subject ← name_front_at validity.1
  spki ← key_front_at subject.1
  exts ← extensions_at spki.1
  Some (record {
    serial = serial.0;
    alg = alg.0;
    issuer = issuer.0;
    validity = validity.0;
    subject = subject.0;
    spki = spki.0;
    exts = exts;
  })

unfoldable pub cert_inside : List ℕ → Option CertForm
cert_inside content = do
  tbs ← required_with tbs_at 0x30 content
  sig_alg ← required_with algorithm_at 0x30 tbs.1
  sig ← sole_with (tested_at is_bits) 0x03 sig_alg.1
  Some (record { tbs = tbs.0; sig_alg = sig_alg.0; sig = sig })

abbrev pub cert_at : List ℕ → Option CertForm
cert_at = sole_with cert_inside 0x30
