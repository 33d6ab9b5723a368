-- Names (RFC 5280, 4.1.2.4), whose values are not looked into.
use Rattle.std.specs.Prelude.{◌≡◌, ◌≢◌, ℕ, ◌++◌, Bool, false, ◌&&◌, ◌==◌, not, is_ok, IsTrue, List, [], ◌∷◌, length, Result, Ok, Err}
use Rattle.std.specs.List.{list_all}
use Rattle.der_base.specs.Element.{element}
use Rattle.der_base.specs.Reading.{Part}
use Rattle.der_base.specs.Row.{IsRow, items_of}
use Rattle.der_base.specs.Values.{is_oid, oid_at}
use Rattle.der_base.specs.declared.fault.DerFault.{DerFault}
use Rattle.asn_types.specs.Rows.{IsRowOf, passes}

-- AttributeTypeAndValue: a SEQUENCE of an object identifier and one element of any form
pub record IsAttribute (p : Part) : Type 0 where
  pub kind : Part
  pub value : Part
  pub is_sequence : p.tag ≡ 0x30
  pub row : IsRow p.content (kind ∷ value ∷ [])
  pub is_identifier : kind.tag ≡ 0x06
  pub identifier : IsTrue (is_oid kind.content)

-- RelativeDistinguishedName: a SET of attributes, at least one
pub record IsRelativeName (p : Part) : Type 0 where
  pub is_set : p.tag ≡ 0x31
  pub some : p.content ≢ []
  pub attributes : IsRowOf IsAttribute p.content

-- Name: a SEQUENCE of relative names
pub record IsName (p : Part) : Type 0 where
  pub is_sequence : p.tag ≡ 0x30
  pub names : IsRowOf IsRelativeName p.content

-- the same as tests on the elements that are read
abbrev pub is_pair : List (Result Part DerFault) → Bool
is_pair [] = false
is_pair (Err f ∷ items) = false
is_pair (Ok kind ∷ []) = false
is_pair (Ok kind ∷ Err f ∷ items) = false
is_pair (Ok kind ∷ Ok value ∷ []) = is_ok (oid_at kind)
is_pair (Ok kind ∷ Ok value ∷ item ∷ items) = false

abbrev pub is_attribute : Part → Bool
is_attribute p = (p.tag == 0x30) && is_pair (items_of p.content)

abbrev pub is_relative_name : Part → Bool
is_relative_name p = (p.tag == 0x31) && (not (length p.content == 0) && list_all (passes is_attribute) (items_of p.content))

unfoldable pub is_name : Part → Bool
is_name p = (p.tag == 0x30) && list_all (passes is_relative_name) (items_of p.content)

-- the attribute of a common name (2.5.4.3), with a UTF8String as its value (RFC 5280, A.1)
abbrev pub common_name_attribute : List ℕ → List ℕ
common_name_attribute text = element 0x30 (element 0x06 (0x55 ∷ 0x04 ∷ 0x03 ∷ []) ++ element 0x0C text)

-- The name that has this common name alone, and what stands in its SEQUENCE.
abbrev pub common_name_content : List ℕ → List ℕ
common_name_content text = element 0x31 (common_name_attribute text)

abbrev pub common_name : List ℕ → List ℕ
common_name text = element 0x30 (common_name_content text)
