-- What a change's octets of DER say: the key in a SubjectPublicKeyInfo (RFC 5280, 4.1.2.7), and the text of a Name that is
-- one common name (RFC 5280, 4.1.2.4, and X.520, 6.2.2). An element is der_base's (X.690).
use Rattle.std.specs.Prelude.{ℕ, ◌&&◌, ◌||◌, Bool, List, [], ◌∷◌, length, Option, Some, None, Result, Ok, Err, is_some, is_ok, nat_le, ◌==◌, if◌then◌else◌}
use Rattle.std.specs.Str.{bytes_eq, is_utf8}
use Rattle.der_base.specs.Reading.{Part, element_at, whole_at}
use Rattle.der_base.specs.Values.{is_oid}
use Rattle.der_base.specs.declared.fault.DerFault.{DerFault}
use Rattle.deal_changes.specs.Bind.{Read, ◌>>=◌}

-- the content of an element with this tag, and what follows the element
abbrev pub tagged : ℕ → Result (Part × List ℕ) DerFault → Read (List ℕ)
tagged tag (Ok r) = if r.0.tag == tag then Some (r.0.content, r.1) else None
tagged tag (Err f) = None

unfoldable pub content_at : ℕ → List ℕ → Read (List ℕ)
content_at tag octets = tagged tag (element_at octets)

-- the content of the one element that the octets are
unfoldable pub only_at : ℕ → List ℕ → Option (List ℕ)
only_at tag octets = do
  content ← content_at tag octets
  if length content.1 == 0 then Some content.0 else None

-- the parameters of an algorithm are absent, or one element that isn't looked into (RFC 5280, 4.1.1.2)
unfoldable pub are_parameters : List ℕ → Bool
are_parameters octets = (length octets == 0) || is_ok (whole_at octets)

-- a key and its algorithm
pub record PublicKey : Type 0 where
  pub algorithm : List ℕ
  pub parameters : List ℕ
  pub key : List ℕ

-- the octets of a BIT STRING without unused bits (X.690, 8.6.2)
abbrev pub whole_octets : List ℕ → Option (List ℕ)
whole_octets [] = None
whole_octets (unused ∷ octets) = if unused == 0 then Some octets else None

-- SEQUENCE { SEQUENCE { OBJECT IDENTIFIER, parameters }, BIT STRING }
unfoldable pub public_key : List ℕ → Option PublicKey
public_key octets = do
  fields ← only_at 0x30 octets
  algorithm ← content_at 0x30 fields
  oid ← content_at 6 algorithm.0
  bits ← only_at 3 algorithm.1
  key ← whole_octets bits
  if is_oid oid.0 && are_parameters oid.1 then Some (record { algorithm = oid.0; parameters = oid.1; key = key }) else None

unfoldable pub is_spki : List ℕ → Bool
is_spki octets = is_some (public_key octets)

-- the object identifier of a common name, 2.5.4.3 (X.520, 6.2.2)
abbrev pub common_name_oid : List ℕ
common_name_oid = 85 ∷ 4 ∷ 3 ∷ []

-- a name of the authority has 1 to 58 octets of UTF-8
unfoldable pub is_name_text : List ℕ → Bool
is_name_text text = nat_le 1 (length text) && nat_le (length text) 58 && is_utf8 text

-- SEQUENCE { SET { SEQUENCE { common name, UTF8String } } }
unfoldable pub common_name : List ℕ → Option (List ℕ)
common_name octets = do
  sets ← only_at 0x30 octets
  set ← only_at 0x31 sets
  attribute ← only_at 0x30 set
  oid ← content_at 6 attribute
  text ← only_at 12 oid.1
  if bytes_eq oid.0 common_name_oid && is_name_text text then Some text else None

unfoldable pub is_ca_name : List ℕ → Bool
is_ca_name octets = is_some (common_name octets)
