-- Certification requests of PKCS #10 (RFC 2986, 4).
use Rattle.std.specs.Prelude.{◌≡◌, ℕ, ◌++◌, List, [], ◌∷◌, length, Option, Some, None, option_map}
use Rattle.der_base.specs.Element.{element, IsElement}
use Rattle.der_base.specs.Values.{is_integer}
use Rattle.asn_fields.specs.Fields.{◌>>=◌, field_at, sole_at}
use Rattle.asn_types.specs.Algorithm.{Algorithm, FitsAlgorithm, algorithm_content, algorithm_of, algorithm_at}
use Rattle.asn_types.specs.Key.{Key, FitsKey, key_content, key_of, key_at}
use Rattle.asn_types.specs.Template.{IsWholeName, Passes, same, tested_at, name_of, extensions_of}
use Rattle.asn_parts.specs.Parts.{FitsTagged, required_with, sole_with, name_front_at}
use Rattle.req_forms.specs.Possession.{signature_element, FitsSignature, sole_signature_at}
use Rattle.req_forms.specs.Attributes.{AttributesForm, IsAttributes, attributes_content, attributes_of, attributes_at}
use Rattle.req_forms.specs.declared.pkcs10.Info.{Info}
use Rattle.req_forms.specs.declared.pkcs10.P10.{P10}

-- CertificationRequestInfo: version, subject, subjectPKInfo, and the attributes [0] (RFC 2986, 4.1)
pub record InfoForm : Type 0 where
  pub version : List ℕ
  pub subject : List ℕ
  pub key : Key
  pub attributes : AttributesForm

abbrev pub info_content : InfoForm → List ℕ
info_content i = element 0x02 i.version ++ (i.subject ++ (element 0x30 (key_content i.key) ++ element 0xA0 (attributes_content i.attributes)))

pub record FitsInfo (i : InfoForm) : Type 0 where
  pub version : FitsTagged same (Passes is_integer) i.version
  pub subject : IsWholeName i.subject
  pub key : FitsTagged key_content FitsKey i.key
  pub attributes : FitsTagged attributes_content IsAttributes i.attributes

-- CertificationRequest: the info as it stands and what is in it, the algorithm and the signature (RFC 2986, 4.2)
pub record P10Form : Type 0 where
  pub info : List ℕ
  pub inside : InfoForm
  pub alg : Algorithm
  pub sig : List ℕ

abbrev pub p10_content : P10Form → List ℕ
p10_content p = p.info ++ (element 0x30 (algorithm_content p.alg) ++ signature_element p.sig)

pub record FitsP10 (p : P10Form) : Type 0 where
  pub info : IsElement p.info 0x30 (info_content p.inside)
  pub inside : FitsInfo p.inside
  pub alg : FitsTagged algorithm_content FitsAlgorithm p.alg
  pub sig : FitsSignature p.sig

-- The octets are this certification request.
pub record IsP10 (bytes : List ℕ) (p : P10Form) : Type 0 where
  pub fits : FitsP10 p
  pub alone : IsElement bytes 0x30 (p10_content p)

-- what was read shows
abbrev pub info_of : Info → InfoForm
info_of i = record {
  version = i.version.now;
  subject = name_of i.subject;
  key = key_of i.spki;
  attributes = attributes_of i.attributes;
}

abbrev pub p10_of : P10 → P10Form
p10_of p = record {
  info = p.info.now;
  inside = record {
    version = p.version.now;
    subject = name_of p.subject;
    key = key_of p.spki;
    attributes = record { octets = p.attributes.now; exts = option_map extensions_of p.exts };
  };
  alg = algorithm_of p.alg;
  sig = p.sig.now;
}

-- what is read
unfoldable pub info_at : List ℕ → Option InfoForm
info_at bytes = do
  version ← required_with (tested_at is_integer) 0x02 bytes
  subject ← name_front_at version.1
  key ← required_with key_at 0x30 subject.1
  attributes ← sole_with attributes_at 0xA0 key.1
  Some (record { version = version.0; subject = subject.0; key = key.0; attributes = attributes })

-- an info as it stands at the front and what is in it, and what follows
unfoldable pub info_front_at : List ℕ → Option ((List ℕ × InfoForm) × List ℕ)
info_front_at bytes = do
  f ← field_at 0x30 bytes
  i ← info_at f.0.content
  Some ((f.0.whole, i), f.1)

unfoldable pub p10_inside_at : List ℕ → Option P10Form
p10_inside_at bytes = do
  info ← info_front_at bytes
  alg ← required_with algorithm_at 0x30 info.1
  sig ← sole_signature_at alg.1
  Some (record { info = info.0.0; inside = info.0.1; alg = alg.0; sig = sig })

unfoldable pub p10_at : List ℕ → Option P10Form
p10_at bytes = sole_with p10_inside_at 0x30 bytes
