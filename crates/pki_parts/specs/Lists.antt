-- Bodies that are a SEQUENCE OF SEQUENCE, and octets that are one element.
use Rattle.std.specs.Prelude.{◌≡◌, ℕ, ◌==◌, if◌then◌else◌, List, Option, None}
use Rattle.der_base.specs.Element.{IsElement}
use Rattle.der_base.specs.Reading.{Part, part}
use Rattle.asn_fields.specs.Rows.{RowForm, IsRowContent, row_at}

-- The part is a SEQUENCE of entries, each in a SEQUENCE of its own: so many, and the first one is this.
pub record IsList {X : Type 0} (spelling : X → List ℕ) (Fits : X → Type 0) (p : Part) (row : RowForm X) : Type 0 where
  pub is_sequence : p.tag ≡ 0x30
  pub content : IsRowContent 0x30 spelling Fits p.content row

-- The octets are one element, and the element is of this form.
pub record IsOne (Form : Part → Type 0) (octets : List ℕ) : Type 0 where
  pub tag : ℕ
  pub content : List ℕ
  pub alone : IsElement octets tag content
  pub form : Form (part tag content)

-- what is read
unfoldable pub list_at : {X : Type 0} → (List ℕ → Option X) → Part → Option (RowForm X)
list_at inner p = if p.tag == 0x30 then row_at inner 0x30 p.content else None
