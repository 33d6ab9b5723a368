-- Fields that must be there, and values that stand alone in a tag (X.690, 8.14).
use Rattle.std.specs.Prelude.{ℕ, ◌^◌, ◌<◌, if◌then◌else◌, List, length, Option, Some, None}
use Rattle.der_base.specs.Element.{element, IsElement}
use Rattle.der_base.specs.Reading.{Part, element_at}
use Rattle.asn_fields.specs.Fields.{◌>>=◌, ok_of, field_at, sole_at}
use Rattle.asn_types.specs.Name.{is_name}
use Rattle.asn_types.specs.General.{IsGeneral, is_general}
use Rattle.asn_types.specs.declared.general.GeneralName.{GeneralName}

-- a value in the element of this tag
abbrev pub tagged : {X : Type 0} → ℕ → (X → List ℕ) → X → List ℕ
tagged tag spelling x = element tag (spelling x)

-- The value fits, and so does the length of its content.
abbrev pub FitsTagged : {X : Type 0} → (X → List ℕ) → (X → Type 0) → X → Type 0
FitsTagged spelling Fits x = Fits x × (length (spelling x) < 2 ^ 32)

-- The part is the element of a general name.
pub record IsWholeGeneral (p : Part) : Type 0 where
  pub alone : IsElement p.whole p.tag p.content
  pub general : IsGeneral p

abbrev pub whole_of : Part → List ℕ
whole_of p = p.whole

-- what a general name that was read shows
abbrev pub general_part : GeneralName → Part
general_part g = record { tag = g.tag; content = g.content.now; whole = g.whole.now }

-- what is read: a value in the element of this tag at the front, and what follows it
abbrev pub required_with : {X : Type 0} → (List ℕ → Option X) → ℕ → List ℕ → Option (X × List ℕ)
required_with inner tag bytes = field_at tag bytes >>= λ f. (inner f.0.content >>= λ x. Some (x, f.1))

-- a value in the one element that the octets are, which has this tag
abbrev pub sole_with : {X : Type 0} → (List ℕ → Option X) → ℕ → List ℕ → Option X
sole_with inner tag bytes = sole_at tag bytes >>= λ p. inner p.content

-- the whole element of a name at the front, and what follows it
unfoldable pub name_front_at : List ℕ → Option (List ℕ × List ℕ)
name_front_at bytes = do
  f ← field_at 0x30 bytes
  if is_name f.0 then Some (f.0.whole, f.1) else None

-- a general name at the front, and what follows it
unfoldable pub general_front_at : List ℕ → Option (Part × List ℕ)
general_front_at bytes = do
  f ← ok_of (element_at bytes)
  if is_general f.0 then Some f else None
