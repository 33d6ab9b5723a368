-- Certificate templates (RFC 4211, 5), with implicit tags.
use Rattle.std.specs.Prelude.{◌≡◌, ℕ, ◌++◌, ◌==◌, if◌then◌else◌, Bool, IsTrue, List, [], ◌∷◌, length, Option, Some, None, option_map}
use Rattle.std.specs.Option.{option_copied}
use Rattle.der_base.specs.Element.{IsElement}
use Rattle.der_base.specs.Reading.{Part, part}
use Rattle.der_base.specs.Values.{is_integer, is_bits}
use Rattle.asn_fields.specs.Fields.{◌>>=◌, sole_at, optional_with}
use Rattle.asn_fields.specs.Forms.{optional_spelling, FitsOptional}
use Rattle.asn_types.specs.Name.{IsName, is_name}
use Rattle.asn_types.specs.Algorithm.{Algorithm, FitsAlgorithm, algorithm_content, algorithm_of, algorithm_at}
use Rattle.asn_types.specs.Key.{Key, FitsKey, key_content, key_of, key_at}
use Rattle.asn_types.specs.Extension.{is_extensions}
use Rattle.der_base.specs.declared.bit_string.Bits.{Bits}
use Rattle.asn_types.specs.declared.name.Name.{Name}
use Rattle.asn_types.specs.declared.extension.Extensions.{Extensions}
use Rattle.asn_types.specs.declared.template.Template.{Template}

-- what stands in a template: contents of elements, and whole names
pub record TemplateForm : Type 0 where
  pub version : Option (List ℕ)
  pub serial : Option (List ℕ)
  pub alg : Option Algorithm
  pub issuer : Option (List ℕ)
  pub validity : Option (List ℕ)
  pub subject : Option (List ℕ)
  pub key : Option Key
  pub issuer_uid : Option (List ℕ)
  pub subject_uid : Option (List ℕ)
  pub exts : Option (List ℕ)

-- octets as they stand
abbrev pub same : List ℕ → List ℕ
same octets = octets

-- any octets
abbrev pub IsAnything : List ℕ → Type 0
IsAnything octets = Unit {0}

-- The content passes a test.
abbrev pub Passes : (List ℕ → Bool) → List ℕ → Type 0
Passes test octets = IsTrue (test octets)

-- The octets are the element of a name.
pub record IsWholeName (octets : List ℕ) : Type 0 where
  pub content : List ℕ
  pub alone : IsElement octets 0x30 content
  pub is_name : IsTrue (is_name (part 0x30 content))

-- The optional fields in their order: version [0], serialNumber [1], signingAlg [2], issuer [3], validity [4], subject [5],
-- publicKey [6], issuerUID [7], subjectUID [8] and extensions [9]. A name stands in its tag whole, since it is a CHOICE.
abbrev pub template_content : TemplateForm → List ℕ
template_content t =
    optional_spelling 0x80 same t.version ++ (optional_spelling 0x81 same t.serial
    ++ (optional_spelling 0xA2 algorithm_content t.alg ++ (optional_spelling 0xA3 same t.issuer
    ++ (optional_spelling 0xA4 same t.validity ++ (optional_spelling 0xA5 same t.subject
    ++ (optional_spelling 0xA6 key_content t.key ++ (optional_spelling 0x87 same t.issuer_uid
    ++ (optional_spelling 0x88 same t.subject_uid ++ optional_spelling 0xA9 same t.exts))))))))

-- Each field that stands there has the form of its type.
pub record FitsTemplate (t : TemplateForm) : Type 0 where
  pub version : FitsOptional same (Passes is_integer) t.version
  pub serial : FitsOptional same (Passes is_integer) t.serial
  pub alg : FitsOptional algorithm_content FitsAlgorithm t.alg
  pub issuer : FitsOptional same IsWholeName t.issuer
  pub validity : FitsOptional same IsAnything t.validity
  pub subject : FitsOptional same IsWholeName t.subject
  pub key : FitsOptional key_content FitsKey t.key
  pub issuer_uid : FitsOptional same (Passes is_bits) t.issuer_uid
  pub subject_uid : FitsOptional same (Passes is_bits) t.subject_uid
  pub exts : FitsOptional same (Passes is_extensions) t.exts

-- what a template that was read shows
abbrev pub name_of : Name → List ℕ
name_of n = n.whole.now

-- the content of a BIT STRING: the count of the unused bits at its end, and the octets (X.690, 8.6.2)
abbrev pub bits_content : Bits → List ℕ
bits_content b = b.unused ∷ b.octets.now

abbrev pub extensions_of : Extensions → List ℕ
extensions_of x = x.content.now

abbrev pub template_of : Template → TemplateForm
template_of t = record {
  version = option_copied t.version;
  serial = option_copied t.serial;
  alg = option_map algorithm_of t.alg;
  issuer = option_map name_of t.issuer;
  validity = option_copied t.validity;
  subject = option_map name_of t.subject;
  key = option_map key_of t.key;
  issuer_uid = option_map bits_content t.issuer_uid;
  subject_uid = option_map bits_content t.subject_uid;
  exts = option_map extensions_of t.exts;
}

-- what is read
unfoldable pub tested_at : (List ℕ → Bool) → List ℕ → Option (List ℕ)
tested_at test content = if test content then Some content else None

unfoldable pub anything_at : List ℕ → Option (List ℕ)
anything_at content = Some content

unfoldable pub name_at : List ℕ → Option (List ℕ)
name_at content = do
  p ← sole_at 0x30 content
  if is_name p then Some p.whole else None

unfoldable pub template_at : List ℕ → Option TemplateForm
template_at content = do
  version ← optional_with (tested_at is_integer) 0x80 content
  serial ← optional_with (tested_at is_integer) 0x81 version.1
  alg ← optional_with algorithm_at 0xA2 serial.1
  issuer ← optional_with name_at 0xA3 alg.1
  validity ← optional_with anything_at 0xA4 issuer.1
  subject ← optional_with name_at 0xA5 validity.1
  key ← optional_with key_at 0xA6 subject.1
  issuer_uid ← optional_with (tested_at is_bits) 0x87 key.1
  subject_uid ← optional_with (tested_at is_bits) 0x88 issuer_uid.1
  exts ← optional_with (tested_at is_extensions) 0xA9 subject_uid.1
  if length exts.1 == 0 then Some (record {
    version = version.0;
    serial = serial.0;
    alg = alg.0;
    issuer = issuer.0;
    validity = validity.0;
    subject = subject.0;
    key = key.0;
    issuer_uid = issuer_uid.0;
    subject_uid = subject_uid.0;
    exts = exts.0;
  }) else None
