-- What reading the fields of a structure gives, on lists. Reading is an Option, since a reader of fields has one fault.
use Rattle.std.specs.Prelude.{◌≡◌, ℕ, ◌==◌, if◌then◌else◌, List, [], ◌∷◌, length, Option, Some, None, Result, Ok, Err, option_map}
use Rattle.std.specs.Borrow.{Bor}
use Rattle.der_base.specs.Reading.{Part, part_of, element_at}
use Rattle.der_base.specs.declared.element.Element.{Element}
use Rattle.der_base.specs.declared.fault.DerFault.{DerFault}

infixl 10 ◌>>=◌
abbrev pub ◌>>=◌ : {A B : Type 0} → Option A → (A → Option B) → Option B
(Some x) >>= f = f x
None >>= f = None

-- What a function returned, seen by view, is what reading gives.
abbrev pub Gives : {X Y E : Type 0} → (X → Y) → Result X E → Option Y → Type 0
Gives view (Ok x) read = read ≡ Some (view x)
Gives view (Err e) read = read ≡ None

-- what was read, whatever its fault
abbrev pub ok_of : {X : Type 0} → Result X DerFault → Option X
ok_of (Ok x) = Some x
ok_of (Err f) = None

-- an element that was read, where it has this tag
abbrev pub with_tag : ℕ → Result (Part × List ℕ) DerFault → Option (Part × List ℕ)
with_tag tag (Ok r) = if r.0.tag == tag then Some r else None
with_tag tag (Err f) = None

-- an element with this tag, and what follows it
unfoldable pub field_at : ℕ → List ℕ → Option (Part × List ℕ)
field_at tag bytes = with_tag tag (element_at bytes)

-- the one element that the octets are, with this tag
unfoldable pub sole_at : ℕ → List ℕ → Option Part
sole_at tag bytes = do
  f ← field_at tag bytes
  if length f.1 == 0 then Some f.0 else None

-- an element with this tag where one stands there, and what follows it
unfoldable pub optional_at : ℕ → List ℕ → Option (Option Part × List ℕ)
optional_at tag [] = Some (None, [])
optional_at tag (first ∷ rest) = if first == tag then (do
  f ← field_at tag (first ∷ rest)
  Some (Some f.0, f.1))
    else Some (None, first ∷ rest)

-- what inner reads in the element, where one stands there
abbrev pub inside_with : {X : Type 0} → (List ℕ → Option X) → Option Part × List ℕ → Option (Option X × List ℕ)
inside_with inner (None, rest) = Some (None, rest)
inside_with inner (Some p, rest) = inner p.content >>= λ x. Some (Some x, rest)

-- a value inside an element with this tag where one stands there, and what follows it
abbrev pub optional_with : {X : Type 0} → (List ℕ → Option X) → ℕ → List ℕ → Option (Option X × List ℕ)
optional_with inner tag bytes = optional_at tag bytes >>= inside_with inner

-- what fields show
abbrev pub field_view : Element × Bor (List ℕ) → Part × List ℕ
field_view r = (part_of r.0, r.1.now)

abbrev pub optional_view : Option Element × Bor (List ℕ) → Option Part × List ℕ
optional_view r = (option_map part_of r.0, r.1.now)
