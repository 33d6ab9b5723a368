-- A row of elements, one behind the other, as in a SEQUENCE or a SET (X.690, 8.9 and 8.11).
use Rattle.std.specs.Prelude.{◌≡◌, ℕ, ◌++◌, zero, suc, List, [], ◌∷◌, length, map, Result, Ok, Err, ◌↔◌}
use Rattle.der_base.specs.Element.{IsElement}
use Rattle.der_base.specs.Reading.{Part, part_of, element_at}
use Rattle.der_base.specs.declared.element.Element.{Element}
use Rattle.der_base.specs.declared.items.Items.{Items}
use Rattle.der_base.specs.declared.fault.DerFault.{DerFault}

-- The parts stand in the content one behind the other, and nothing is over.
abbrev pub IsRow : List ℕ → List Part → Type 0
IsRow content [] = content ≡ []
IsRow content (p ∷ ps) = (rest : List ℕ) × (content ≡ p.whole ++ rest) × IsElement p.whole p.tag p.content × IsRow rest ps

-- what an item shows
abbrev pub item_of : Result Element DerFault → Result Part DerFault
item_of (Ok e) = Ok (part_of e)
item_of (Err f) = Err f

-- the item that was read, and the others behind it
abbrev pub first_item : Result (Part × List ℕ) DerFault → (List ℕ → List (Result Part DerFault)) → List (Result Part DerFault)
first_item (Ok r) others = Ok r.0 ∷ others r.1
first_item (Err f) others = Err f ∷ []

-- the items of at most so many steps
unfoldable pub items_within : ℕ → List ℕ → List (Result Part DerFault)
items_within zero bytes = []
items_within (suc n) [] = []
items_within (suc n) (b ∷ bytes) = first_item (element_at (b ∷ bytes)) (items_within n)

-- The elements from the front on. Where none can be read, its fault ends them.
unfoldable pub items_of : List ℕ → List (Result Part DerFault)
items_of bytes = items_within (length bytes) bytes

abbrev pub items_left : Items → List (Result Part DerFault)
items_left i = items_of i.rest.now

-- The items are all elements exactly where the octets are a row of them.
abbrev pub RowIsRead : Type 0
RowIsRead = (content : List ℕ) (parts : List Part) → (items_of content ≡ map Ok parts) ↔ IsRow content parts
