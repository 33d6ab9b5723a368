-- Fields that may be left out, where another tag follows or nothing, are read exactly where they are spelled.
use Rattle.std.proofs.Common.{◌≡◌, ◌≢◌, ℕ, ◌%◌, ◌<◌, ◌++◌, eqb, List, [], ◌∷◌, length, Option, Some, None, true, false, append-nil, eqb-true, refl, sym, ap, ◌∙◌, arith}
use Rattle.std.proofs.lemmas.List.{length-append}
use Rattle.der_base.specs.Element.{element}
use Rattle.asn_fields.specs.Fields.{optional_with}
use Rattle.asn_fields.specs.Forms.{IsRead, optional_spelling, FitsOptional}
use Rattle.asn_types.proofs.OptionalLemmas.{IsNotAt, optional_there, optional_not}
use Rattle.asn_types.proofs.LengthLemmas.{length_element_lt}

-- a list of no length is empty
pub nothing_over : (l : List ℕ) → eqb (length l) 0 ≡ true → l ≡ []
nothing_over [] h = refl
nothing_over (x ∷ l) h = absurd (omega (arith, eqb-true (length (x ∷ l)) 0 h))

-- where another tag follows
pub field_not : {X : Type 0} (inner : List ℕ → Option X) (tag : ℕ) (spelling : X → List ℕ) (Fits : X → Type 0) → tag % 32 ≢ 31 → IsRead inner spelling Fits → (o : Option X) (rest : List ℕ) → FitsOptional spelling Fits o → IsNotAt tag rest → optional_with inner tag (optional_spelling tag spelling o ++ rest) ≡ Some (o, rest)
field_not inner tag spelling Fits low law None rest fits h = rw (optional_not tag rest h) refl
field_not inner tag spelling Fits low law (Some x) rest fits h = rw (optional_there tag (spelling x) rest low fits.1, law.again x fits.0) refl

-- where nothing follows
pub field_last : {X : Type 0} (inner : List ℕ → Option X) (tag : ℕ) (spelling : X → List ℕ) (Fits : X → Type 0) → tag % 32 ≢ 31 → IsRead inner spelling Fits → (o : Option X) → FitsOptional spelling Fits o → optional_with inner tag (optional_spelling tag spelling o) ≡ Some (o, [])
field_last inner tag spelling Fits low law o fits =
    ap (optional_with inner tag) (sym (append-nil (optional_spelling tag spelling o))) ∙ field_not inner tag spelling Fits low law o [] fits tt

-- a field with another tag at the front, where it is there
pub other_tag : {X : Type 0} (low tag : ℕ) (spelling : X → List ℕ) (o : Option X) → eqb tag low ≡ false → IsNotAt low (optional_spelling tag spelling o)
unfolding element
other_tag low tag spelling None h = tt
other_tag low tag spelling (Some x) h = h

pub other_tags : {X : Type 0} (low tag : ℕ) (spelling : X → List ℕ) (o : Option X) (rest : List ℕ) → eqb tag low ≡ false → IsNotAt low rest → IsNotAt low (optional_spelling tag spelling o ++ rest)
unfolding element
other_tags low tag spelling None rest h k = k
other_tags low tag spelling (Some x) rest h k = h

-- what stands in a row or in an element is not longer
pub front_fits : (n : ℕ) (a b : List ℕ) → length (a ++ b) < n → length a < n
front_fits n a b h = omega (arith, h, length-append a b)

pub back_fits : (n : ℕ) (a b : List ℕ) → length (a ++ b) < n → length b < n
back_fits n a b h = omega (arith, h, length-append a b)

pub inside_fits : (n tag : ℕ) (content : List ℕ) → length (element tag content) < n → length content < n
inside_fits n tag content h = omega (arith, h, length_element_lt tag content)
