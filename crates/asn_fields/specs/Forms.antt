-- How fields are spelled, and what it is to read them exactly.
use Rattle.std.specs.Prelude.{◌≡◌, ℕ, ◌^◌, ◌<◌, ◌++◌, List, [], ◌∷◌, length, Option, Some, None}
use Rattle.der_base.specs.Element.{element}

-- Reading octets gives a value exactly where they are its spelling and it fits.
pub record IsRead {X : Type 0} (read : List ℕ → Option X) (spelling : X → List ℕ) (Fits : X → Type 0) : Type 0 where
  pub takes : (bytes : List ℕ) (x : X) → read bytes ≡ Some x → Fits x × (bytes ≡ spelling x)
  pub again : (x : X) → Fits x → read (spelling x) ≡ Some x

-- Reading gives a value and what follows it exactly where the octets begin with its spelling and it fits.
pub record IsFront {X : Type 0} (read : List ℕ → Option (X × List ℕ)) (spelling : X → List ℕ) (Fits : X → Type 0) : Type 0 where
  pub takes : (bytes : List ℕ) (x : X) (rest : List ℕ) → read bytes ≡ Some (x, rest) → Fits x × (bytes ≡ spelling x ++ rest)
  pub again : (x : X) (rest : List ℕ) → Fits x → read (spelling x ++ rest) ≡ Some (x, rest)

-- The octets are none, or the first one is above this tag.
abbrev pub Above : ℕ → List ℕ → Type 0
Above tag [] = Unit {0}
Above tag (first ∷ rest) = tag < first

-- a field that may be left out, in an element with this tag
abbrev pub optional_spelling : {X : Type 0} → ℕ → (X → List ℕ) → Option X → List ℕ
optional_spelling tag spelling None = []
optional_spelling tag spelling (Some x) = element tag (spelling x)

abbrev pub FitsOptional : {X : Type 0} → (X → List ℕ) → (X → Type 0) → Option X → Type 0
FitsOptional spelling Fits None = Unit {0}
FitsOptional spelling Fits (Some x) = Fits x × (length (spelling x) < 2 ^ 32)

-- A field that may be left out is read exactly where it is spelled, where no later field has its tag or a lower one.
pub record IsField {X : Type 0} (read : List ℕ → Option (Option X × List ℕ)) (tag : ℕ) (spelling : X → List ℕ) (Fits : X → Type 0) : Type 0 where
  pub takes : (bytes : List ℕ) (o : Option X) (rest : List ℕ) → read bytes ≡ Some (o, rest) → FitsOptional spelling Fits o × (bytes ≡ optional_spelling tag spelling o ++ rest)
  pub again : (o : Option X) (rest : List ℕ) → FitsOptional spelling Fits o → Above tag rest → read (optional_spelling tag spelling o ++ rest) ≡ Some (o, rest)
