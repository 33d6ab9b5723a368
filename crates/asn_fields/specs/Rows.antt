-- SEQUENCE OF and SET OF: a row of entries, one behind the other and nothing over (X.690, 8.10 and 8.12). The order inside a SET
-- is not asked for.
use Rattle.std.specs.Prelude.{◌≡◌, ℕ, zero, suc, ◌+◌, ◌^◌, ◌<◌, ◌++◌, ◌==◌, if◌then◌else◌, List, [], ◌∷◌, length, Option, Some, None, Result, Ok, Err, option_map}
use Rattle.der_base.specs.Element.{element}
use Rattle.der_base.specs.Reading.{Part}
use Rattle.der_base.specs.Row.{items_of}
use Rattle.der_base.specs.declared.fault.DerFault.{DerFault}
use Rattle.asn_fields.specs.Fields.{◌>>=◌}
use Rattle.asn_fields.specs.declared.rows.Row.{Row}

-- a row: the number of its entries, and the first one
pub record RowForm (X : Type 0) : Type 0 where
  pub count : ℕ
  pub first : Option X

abbrev pub first_of : {X : Type 0} → List X → Option X
first_of [] = None
first_of (x ∷ xs) = Some x

abbrev pub row_of : {X : Type 0} → List X → RowForm X
row_of xs = record { count = length xs; first = first_of xs }

-- The entries in their elements, all with this tag.
abbrev pub entries_spelling : {X : Type 0} → ℕ → (X → List ℕ) → List X → List ℕ
entries_spelling tag spelling [] = []
entries_spelling tag spelling (x ∷ xs) = element tag (spelling x) ++ entries_spelling tag spelling xs

-- Each entry has a spelling.
abbrev pub FitsEntries : {X : Type 0} → (X → List ℕ) → (X → Type 0) → List X → Type 0
FitsEntries spelling Fits [] = Unit {0}
FitsEntries spelling Fits (x ∷ xs) = Fits x × (length (spelling x) < 2 ^ 32) × FitsEntries spelling Fits xs

-- The content is that of a row with these entries at its front and so many of them.
pub record IsRowContent {X : Type 0} (tag : ℕ) (spelling : X → List ℕ) (Fits : X → Type 0) (content : List ℕ) (row : RowForm X) : Type 0 where
  pub entries : List X
  pub fit : FitsEntries spelling Fits entries
  pub spelled : content ≡ entries_spelling tag spelling entries
  pub shown : row ≡ row_of entries

-- what a row that was read shows
abbrev pub row_view : {T X : Type 0} → (T → X) → Row T → RowForm X
row_view view r = record { count = r.count; first = option_map view r.first }

-- what is read of an item: an entry in an element with this tag
abbrev pub item_at : {X : Type 0} → (List ℕ → Option X) → ℕ → Result Part DerFault → Option X
item_at inner tag (Ok p) = if p.tag == tag then inner p.content else None
item_at inner tag (Err f) = None

-- and of all items
abbrev pub each_at : {X : Type 0} → (List ℕ → Option X) → ℕ → List (Result Part DerFault) → Option (List X)
each_at inner tag [] = Some []
each_at inner tag (item ∷ items) = item_at inner tag item >>= λ x. (each_at inner tag items >>= λ xs. Some (x ∷ xs))

unfoldable pub entries_at : {X : Type 0} → (List ℕ → Option X) → ℕ → List ℕ → Option (List X)
entries_at inner tag content = each_at inner tag (items_of content)

unfoldable pub row_at : {X : Type 0} → (List ℕ → Option X) → ℕ → List ℕ → Option (RowForm X)
row_at inner tag content = entries_at inner tag content >>= λ xs. Some (row_of xs)

-- the row of the entries that are still to come, where so many were read and this was the first one
abbrev pub with_front : {X : Type 0} → ℕ → Option X → Option (List X) → Option (RowForm X)
with_front count first None = None
with_front zero first (Some xs) = Some (row_of xs)
with_front (suc n) first (Some xs) = Some (record { count = suc n + length xs; first = first })
