-- Extensions of certificates (RFC 5280, 4.1.2.9 and 4.2), whose values are not looked into.
use Rattle.std.specs.Prelude.{◌≡◌, ◌≢◌, ℕ, ◌^◌, ◌<◌, ◌++◌, ◌==◌, ◌&&◌, not, if◌then◌else◌, IsTrue, Bool, true, false, is_some, List, [], ◌∷◌, length, Option, Some, None}
use Rattle.std.specs.List.{list_all}
use Rattle.der_base.specs.Element.{element}
use Rattle.der_base.specs.Reading.{Part}
use Rattle.der_base.specs.Row.{items_of}
use Rattle.der_base.specs.Values.{is_oid, boolean_at}
use Rattle.asn_fields.specs.Fields.{◌>>=◌, ok_of, sole_at, optional_at}
use Rattle.asn_types.specs.Rows.{IsRowOf, passes}
use Rattle.asn_types.specs.Algorithm.{oid_field_at}
use Rattle.asn_types.specs.declared.extension.Extension.{Extension}

-- an extension: its object identifier, whether it is critical, and the octets of its value
pub record ExtensionForm : Type 0 where
  pub oid : List ℕ
  pub critical : Bool
  pub value : List ℕ

-- A critical extension says so. FALSE is the default, which DER leaves out (X.690, 11.5).
abbrev pub critical_octets : Bool → List ℕ
critical_octets true = element 0x01 (255 ∷ [])
critical_octets false = []

-- what stands in its SEQUENCE: an object identifier, a BOOLEAN DEFAULT FALSE and an OCTET STRING
abbrev pub extension_content : ExtensionForm → List ℕ
extension_content x = element 0x06 x.oid ++ (critical_octets x.critical ++ element 0x04 x.value)

-- The parts have the forms of their types.
pub record FitsExtension (x : ExtensionForm) : Type 0 where
  pub identifier : IsTrue (is_oid x.oid)
  pub counted : length x.oid < 2 ^ 32
  pub value_counted : length x.value < 2 ^ 32

-- The element is an extension.
pub record IsExtension (p : Part) : Type 0 where
  pub form : ExtensionForm
  pub is_sequence : p.tag ≡ 0x30
  pub fits : FitsExtension form
  pub spelled : p.content ≡ extension_content form

-- Extensions: a row of them, not empty (RFC 5280, 4.1.2.9)
pub record IsExtensions (content : List ℕ) : Type 0 where
  pub some : content ≢ []
  pub row : IsRowOf IsExtension content

-- what an extension that was read shows
abbrev pub extension_of : Extension → ExtensionForm
extension_of x = record { oid = x.oid.now; critical = x.critical; value = x.value.now }

-- what is read: whether a BOOLEAN at the front says TRUE, which may be left out, and what follows it
abbrev pub critical_of : Option Part × List ℕ → Option (Bool × List ℕ)
critical_of (None, rest) = Some (false, rest)
critical_of (Some p, rest) = do
  b ← ok_of (boolean_at p)
  if b then Some (true, rest) else None

unfoldable pub critical_at : List ℕ → Option (Bool × List ℕ)
critical_at bytes = optional_at 0x01 bytes >>= critical_of

unfoldable pub extension_at : List ℕ → Option ExtensionForm
extension_at content = do
  kind ← oid_field_at content
  critical ← critical_at kind.1
  value ← sole_at 0x04 critical.1
  Some (record { oid = kind.0; critical = critical.0; value = value.content })

unfoldable pub is_extension : Part → Bool
is_extension p = (p.tag == 0x30) && is_some (extension_at p.content)

unfoldable pub is_extensions : List ℕ → Bool
is_extensions content = not (length content == 0) && list_all (passes is_extension) (items_of content)
