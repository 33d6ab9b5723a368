-- General names (RFC 5280, 4.2.1.6), of which the directory name alone is looked into.
use Rattle.std.specs.Prelude.{◌≡◌, ℕ, ◌≤◌, ◌⊎◌, Bool, false, ◌&&◌, ◌||◌, ◌==◌, not, nat_le, List, Result, Ok, Err}
use Rattle.der_base.specs.Element.{IsElement}
use Rattle.der_base.specs.Reading.{Part, whole_at}
use Rattle.der_base.specs.declared.fault.DerFault.{DerFault}
use Rattle.asn_types.specs.Name.{IsName, is_name}

-- The one element that the octets are is a name.
pub record IsNameAlone (octets : List ℕ) : Type 0 where
  pub name : Part
  pub alone : IsElement octets name.tag name.content
  pub is_name : IsName name

-- GeneralName: an element with a context tag 0 to 8, primitive or constructed. A directoryName, [4], is a name in its tag.
pub record IsGeneral (p : Part) : Type 0 where
  pub tagged : ((0x80 ≤ p.tag) × (p.tag ≤ 0x88)) ⊎ ((0xA0 ≤ p.tag) × (p.tag ≤ 0xA8))
  pub directory : p.tag ≡ 0xA4 → IsNameAlone p.content

-- the same as tests
abbrev pub is_name_read : Result Part DerFault → Bool
is_name_read (Ok p) = is_name p
is_name_read (Err f) = false

abbrev pub is_general_tag : ℕ → Bool
is_general_tag tag = (nat_le 0x80 tag && nat_le tag 0x88) || (nat_le 0xA0 tag && nat_le tag 0xA8)

unfoldable pub is_general : Part → Bool
is_general p = is_general_tag p.tag && (not (p.tag == 0xA4) || is_name_read (whole_at p.content))
