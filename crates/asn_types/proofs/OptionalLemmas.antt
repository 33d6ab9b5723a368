-- Fields that may be left out.
use Rattle.std.proofs.Common.{◌≡◌, ◌≢◌, ℕ, ◌%◌, ◌^◌, ◌<◌, ◌++◌, Bool, true, false, cond, eqb, List, [], ◌∷◌, length, Option, Some, None, eq-eqb, refl, ap, subst}
use Rattle.der_base.specs.Element.{element}
use Rattle.der_base.specs.Reading.{Part, part}
use Rattle.asn_fields.specs.Fields.{◌>>=◌, field_at, optional_at}
use Rattle.asn_fields.proofs.FieldLemmas.{IsTagged, bound, some_same, field_takes, field_again}

-- what reading a field takes that may be left out
abbrev pub IsOptional : ℕ → List ℕ → Option Part → List ℕ → Type 0
IsOptional tag bytes None rest = bytes ≡ rest
IsOptional tag bytes (Some p) rest = IsTagged tag bytes p rest

abbrev none_part : Option Part
none_part = None

abbrev kept : Part × List ℕ → Option (Option Part × List ℕ)
kept f = Some (Some f.0, f.1)

abbrev left_out : List ℕ → Option (Option Part × List ℕ)
left_out bytes = Some (None, bytes)

optional_by : (tag : ℕ) (bytes : List ℕ) (b : Bool) (o : Option Part) (rest : List ℕ) → cond b (field_at tag bytes >>= kept) (left_out bytes) ≡ Some (o, rest) → IsOptional tag bytes o rest
optional_by tag bytes true o rest e =
    bound (IsOptional tag bytes o rest) (field_at tag bytes) kept (o, rest) e (λ f read e1.
    let same = some_same (Some f.0, f.1) (o, rest) e1 in
    subst (λ (x : Option Part). IsOptional tag bytes x rest) (ap (λ (x : Option Part × List ℕ). x.0) same)
    (subst (λ (l : List ℕ). IsTagged tag bytes f.0 l) (ap (λ (x : Option Part × List ℕ). x.1) same) (field_takes tag bytes f.0 f.1 read)))
optional_by tag bytes false o rest e =
    let same = some_same (none_part, bytes) (o, rest) e in
    subst (λ (x : Option Part). IsOptional tag bytes x rest) (ap (λ (x : Option Part × List ℕ). x.0) same) (ap (λ (x : Option Part × List ℕ). x.1) same)

pub optional_takes : (tag : ℕ) (bytes : List ℕ) (o : Option Part) (rest : List ℕ) → optional_at tag bytes ≡ Some (o, rest) → IsOptional tag bytes o rest
unfolding optional_at
optional_takes tag [] o rest e = optional_by tag [] false o rest e
optional_takes tag (first ∷ more) o rest e = optional_by tag (first ∷ more) (eqb first tag) o rest e

pub optional_there : (tag : ℕ) (content rest : List ℕ) → tag % 32 ≢ 31 → length content < 2 ^ 32 → optional_at tag (element tag content ++ rest) ≡ Some (Some (part tag content), rest)
unfolding optional_at element
optional_there tag content rest low counted = rw (eq-eqb tag tag refl, field_again tag content rest low counted) refl

-- The octets are none, or another tag stands at the front.
abbrev pub IsNotAt : ℕ → List ℕ → Type 0
IsNotAt tag [] = Unit {0}
IsNotAt tag (first ∷ rest) = eqb first tag ≡ false

pub optional_not : (tag : ℕ) (rest : List ℕ) → IsNotAt tag rest → optional_at tag rest ≡ Some (None, rest)
unfolding optional_at
optional_not tag [] h = refl
optional_not tag (first ∷ rest) h = rw h refl
