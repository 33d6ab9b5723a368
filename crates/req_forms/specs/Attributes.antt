-- Attributes of a PKCS #10 request (RFC 2986, 4.1), of which extensionRequest alone is looked into (RFC 2985, 5.4.2).
use Rattle.std.specs.Prelude.{◌≡◌, ◌≢◌, ℕ, ◌^◌, ◌<◌, ◌++◌, Bool, if◌then◌else◌, IsTrue, List, [], ◌∷◌, length, Option, Some, None, option_map}
use Rattle.std.specs.Str.{bytes_eq}
use Rattle.der_base.specs.Element.{element}
use Rattle.der_base.specs.Values.{is_oid}
use Rattle.asn_fields.specs.Fields.{◌>>=◌}
use Rattle.asn_fields.specs.Rows.{entries_spelling, FitsEntries, entries_at}
use Rattle.asn_types.specs.Algorithm.{oid_field_at}
use Rattle.asn_types.specs.Extension.{is_extensions}
use Rattle.asn_types.specs.Template.{Passes, same, tested_at, extensions_of}
use Rattle.asn_parts.specs.Parts.{tagged, FitsTagged, sole_with}
use Rattle.req_forms.specs.Requests.{are_elements}
use Rattle.req_forms.specs.declared.attributes.Attribute.{Attribute}
use Rattle.req_forms.specs.declared.attributes.Attribute.TheVariants as variant
use Rattle.req_forms.specs.declared.attributes.Attributes.{Attributes}

-- an attribute: the extensions that are asked for, or another one by its identifier and its values
pub data AttributeForm : Type 0 where
  extension_request : List ℕ → AttributeForm
  other : List ℕ → List ℕ → AttributeForm

-- extensionRequest, 1.2.840.113549.1.9.14 (RFC 2985, 5.4.2)
unfoldable pub extension_request_id : List ℕ
extension_request_id = 0x2a ∷ 0x86 ∷ 0x48 ∷ 0x86 ∷ 0xf7 ∷ 0x0d ∷ 0x01 ∷ 0x09 ∷ 0x0e ∷ []

-- what stands in the SEQUENCE of an attribute: an identifier and a SET of values. An extensionRequest has one, Extensions.
abbrev pub attribute_content : AttributeForm → List ℕ
attribute_content (extension_request exts) = element 0x06 extension_request_id ++ element 0x31 (element 0x30 exts)
attribute_content (other oid values) = element 0x06 oid ++ element 0x31 values

-- Another attribute has another identifier, and elements as its values.
pub record FitsOther (oid values : List ℕ) : Type 0 where
  pub identifier : IsTrue (is_oid oid)
  pub counted : length oid < 2 ^ 32
  pub differs : oid ≢ extension_request_id
  pub elements : FitsTagged same (Passes are_elements) values

abbrev pub FitsAttribute : AttributeForm → Type 0
FitsAttribute (extension_request exts) = FitsTagged (tagged 0x30 same) (FitsTagged same (Passes is_extensions)) exts
FitsAttribute (other oid values) = FitsOther oid values

-- all extensions that attributes ask for
abbrev pub requests_in : List AttributeForm → List (List ℕ)
requests_in [] = []
requests_in (extension_request exts ∷ attributes) = exts ∷ requests_in attributes
requests_in (other oid values ∷ attributes) = requests_in attributes

-- at most one
abbrev pub at_most_one : List (List ℕ) → Option (Option (List ℕ))
at_most_one [] = Some None
at_most_one (x ∷ []) = Some (Some x)
at_most_one (x ∷ y ∷ more) = None

-- attributes: the octets that they stand in, and the extensions that they ask for
pub record AttributesForm : Type 0 where
  pub octets : List ℕ
  pub exts : Option (List ℕ)

abbrev pub attributes_content : AttributesForm → List ℕ
attributes_content a = a.octets

-- The octets are a row of attributes with at most one extensionRequest, and this is it.
pub record IsAttributes (a : AttributesForm) : Type 0 where
  pub attributes : List AttributeForm
  pub fit : FitsEntries attribute_content FitsAttribute attributes
  pub spelled : a.octets ≡ entries_spelling 0x30 attribute_content attributes
  pub one : at_most_one (requests_in attributes) ≡ Some a.exts

-- what was read shows
abbrev pub attribute_of : Attribute → AttributeForm
attribute_of (variant.ExtensionRequest x) = extension_request (extensions_of x)
attribute_of (variant.Other oid values) = other oid.now values.now

abbrev pub attributes_of : Attributes → AttributesForm
attributes_of a = record { octets = a.octets.now; exts = option_map extensions_of a.exts }

-- what is read
abbrev pub values_at : List ℕ → Bool → List ℕ → Option AttributeForm
values_at oid is_request rest =
    if is_request then (sole_with (sole_with (tested_at is_extensions) 0x30) 0x31 rest >>= λ exts. Some (extension_request exts))
    else (sole_with (tested_at are_elements) 0x31 rest >>= λ values. Some (other oid values))

unfoldable pub attribute_at : List ℕ → Option AttributeForm
attribute_at bytes = do
  kind ← oid_field_at bytes
  values_at kind.0 (bytes_eq kind.0 extension_request_id) kind.1

abbrev pub with_exts : List ℕ → Option (Option (List ℕ)) → Option AttributesForm
with_exts octets None = None
with_exts octets (Some exts) = Some (record { octets = octets; exts = exts })

unfoldable pub attributes_at : List ℕ → Option AttributesForm
attributes_at octets = entries_at attribute_at 0x30 octets >>= λ attributes. with_exts octets (at_most_one (requests_in attributes))

-- the attributes that are read, where those that are left are these and the extensionRequest before them is this
abbrev pub asked_after : Option (List ℕ) → List (List ℕ) → List (List ℕ)
asked_after None requests = requests
asked_after (Some x) requests = x ∷ requests

abbrev pub with_asked : List ℕ → Option (List ℕ) → Option (List AttributeForm) → Option AttributesForm
with_asked octets exts None = None
with_asked octets exts (Some attributes) = with_exts octets (at_most_one (asked_after exts (requests_in attributes)))
