-- Fields that must be there and values that stand alone are read exactly where they are spelled.
use Rattle.std.proofs.Common.{◌≡◌, ◌≢◌, ℕ, ◌%◌, ◌^◌, ◌<◌, ◌++◌, Bool, true, cond, IsTrue, List, length, Option, Some, None, Ok, append-nil, refl, sym, ap, subst, ◌∙◌, arith}
use Rattle.std.proofs.lemmas.List.{length-append}
use Rattle.der_base.specs.Element.{element, IsElement}
use Rattle.der_base.specs.Reading.{Part, part, element_at}
use Rattle.der_base.proofs.ElementLemmas.{IsTaken, element_takes, element_reads}
use Rattle.asn_fields.specs.Fields.{◌>>=◌, ok_of, field_at, sole_at}
use Rattle.asn_fields.specs.Forms.{IsRead, IsFront}
use Rattle.asn_fields.proofs.FieldLemmas.{IsTagged, bound, passed, some_same, field_takes, field_again, sole_takes, sole_reads}
use Rattle.asn_types.specs.Name.{is_name}
use Rattle.asn_types.specs.General.{is_general}
use Rattle.asn_types.specs.Template.{IsWholeName, same}
use Rattle.asn_types.proofs.GeneralLemmas.{general_test}
use Rattle.asn_types.proofs.LengthLemmas.{length_element_lt}
use Rattle.asn_types.proofs.ValueLemmas.{ok_is}
pub use Rattle.asn_types.proofs.TemplateLemmas.{tested_is_read, anything_is_read, empty_of, field_not, field_last}
use Rattle.asn_parts.specs.Parts.{tagged, FitsTagged, IsWholeGeneral, whole_of, required_with, sole_with, name_front_at, general_front_at}

-- the parts of octets whose length fits
pub back_fits : (n : ℕ) (a b : List ℕ) → length (a ++ b) < n → length b < n
back_fits n a b h = omega (arith, length-append a b, h)

pub front_fits : (n : ℕ) (a b : List ℕ) → length (a ++ b) < n → length a < n
front_fits n a b h = omega (arith, length-append a b, h)

pub inside_fits : (n tag : ℕ) (a : List ℕ) → length (element tag a) < n → length a < n
inside_fits n tag a h = omega (arith, length_element_lt tag a, h)

-- a field that must be there
required_by : {X : Type 0} (tag : ℕ) (spelling : X → List ℕ) (Fits : X → Type 0) → (bytes : List ℕ) (p : Part) (more : List ℕ) (y x : X) (rest : List ℕ) → IsTagged tag bytes p more → Fits y → p.content ≡ spelling y → ◌≡◌ {A = X × List ℕ} (y, more) (x, rest) → FitsTagged spelling Fits x × (bytes ≡ tagged tag spelling x ++ rest)
required_by {X = X} tag spelling Fits bytes p more y x rest t fits spelled e =
    let counted : length (spelling y) < 2 ^ 32 = subst (λ (l : List ℕ). length l < 2 ^ 32) spelled t.element_is.counted in
    let parts : bytes ≡ tagged tag spelling y ++ more = t.parts ∙ ap (λ (l : List ℕ). l ++ more) (t.element_is.spelled ∙ ap (element tag) spelled) in
    subst (λ (z : X × List ℕ). FitsTagged spelling Fits z.0 × (bytes ≡ tagged tag spelling z.0 ++ z.1)) e ((fits, counted), parts)

required_takes : {X : Type 0} (inner : List ℕ → Option X) (tag : ℕ) (spelling : X → List ℕ) (Fits : X → Type 0) → IsRead inner spelling Fits → (bytes : List ℕ) (x : X) (rest : List ℕ) → required_with inner tag bytes ≡ Some (x, rest) → FitsTagged spelling Fits x × (bytes ≡ tagged tag spelling x ++ rest)
required_takes {X = X} inner tag spelling Fits law bytes x rest e =
    bound (FitsTagged spelling Fits x × (bytes ≡ tagged tag spelling x ++ rest)) (field_at tag bytes) (λ (f : Part × List ℕ). inner f.0.content >>= λ y. Some (y, f.1)) (x, rest) e (λ f read e1.
    bound (FitsTagged spelling Fits x × (bytes ≡ tagged tag spelling x ++ rest)) (inner f.0.content) (λ (y : X). Some (y, f.1)) (x, rest) e1 (λ y got e2.
    let w = law.takes f.0.content y got in
    required_by tag spelling Fits bytes f.0 f.1 y x rest (field_takes tag bytes f.0 f.1 read) w.0 w.1 (some_same (y, f.1) (x, rest) e2)))

required_again : {X : Type 0} (inner : List ℕ → Option X) (tag : ℕ) (spelling : X → List ℕ) (Fits : X → Type 0) → tag % 32 ≢ 31 → IsRead inner spelling Fits → (x : X) (rest : List ℕ) → FitsTagged spelling Fits x → required_with inner tag (tagged tag spelling x ++ rest) ≡ Some (x, rest)
required_again {X = X} inner tag spelling Fits low law x rest fits =
    ap (λ (q : Option (Part × List ℕ)). q >>= λ f. (inner f.0.content >>= λ y. Some (y, f.1))) (field_again tag (spelling x) rest low fits.1)
    ∙ ap (λ (v : Option X). v >>= λ y. Some (y, rest)) (law.again x fits.0)

-- The law of a field that must be there.
pub required_front : {X : Type 0} (inner : List ℕ → Option X) (tag : ℕ) (spelling : X → List ℕ) (Fits : X → Type 0) → tag % 32 ≢ 31 → IsRead inner spelling Fits → IsFront (required_with inner tag) (tagged tag spelling) (FitsTagged spelling Fits)
required_front inner tag spelling Fits low law = record {
  takes = required_takes inner tag spelling Fits law;
  again = required_again inner tag spelling Fits low law;
}

-- a value that stands alone in its tag
sole_with_takes : {X : Type 0} (inner : List ℕ → Option X) (tag : ℕ) (spelling : X → List ℕ) (Fits : X → Type 0) → IsRead inner spelling Fits → (bytes : List ℕ) (x : X) → sole_with inner tag bytes ≡ Some x → FitsTagged spelling Fits x × (bytes ≡ tagged tag spelling x)
sole_with_takes {X = X} inner tag spelling Fits law bytes x e =
    bound (FitsTagged spelling Fits x × (bytes ≡ tagged tag spelling x)) (sole_at tag bytes) (λ (p : Part). inner p.content) x e (λ p read got.
    let t = sole_takes tag bytes p read in
    let w = law.takes p.content x got in
    ((w.0, subst (λ (l : List ℕ). length l < 2 ^ 32) w.1 t.element_is.counted), t.parts ∙ append-nil p.whole ∙ t.element_is.spelled ∙ ap (element tag) w.1))

sole_with_again : {X : Type 0} (inner : List ℕ → Option X) (tag : ℕ) (spelling : X → List ℕ) (Fits : X → Type 0) → tag % 32 ≢ 31 → IsRead inner spelling Fits → (x : X) → FitsTagged spelling Fits x → sole_with inner tag (tagged tag spelling x) ≡ Some x
sole_with_again {X = X} inner tag spelling Fits low law x fits =
    let is : IsElement (element tag (spelling x)) tag (spelling x) = record { low_tag = low; counted = fits.1; spelled = refl } in
    ap (λ (q : Option Part). q >>= λ p. inner p.content) (sole_reads tag (element tag (spelling x)) (spelling x) is) ∙ law.again x fits.0

-- The law of a value that stands alone in its tag.
pub sole_is_read : {X : Type 0} (inner : List ℕ → Option X) (tag : ℕ) (spelling : X → List ℕ) (Fits : X → Type 0) → tag % 32 ≢ 31 → IsRead inner spelling Fits → IsRead (sole_with inner tag) (tagged tag spelling) (FitsTagged spelling Fits)
sole_is_read inner tag spelling Fits low law = record {
  takes = sole_with_takes inner tag spelling Fits law;
  again = sole_with_again inner tag spelling Fits low law;
}

-- a name at the front
name_by : (bytes x rest : List ℕ) (p : Part) (more : List ℕ) → IsTagged 0x30 bytes p more → is_name p ≡ true → ◌≡◌ {A = List ℕ × List ℕ} (p.whole, more) (x, rest) → IsWholeName x × (bytes ≡ same x ++ rest)
name_by bytes x rest p more t h e =
    let k : p.whole ≡ x = ap (λ (z : List ℕ × List ℕ). z.0) e in (
      record {
        content = p.content;
        alone = subst (λ (l : List ℕ). IsElement l 0x30 p.content) k t.element_is;
        is_name = subst (λ (q : Part). IsTrue (is_name q)) t.part_is h;
      },
      t.parts ∙ ap (λ (z : List ℕ × List ℕ). z.0 ++ z.1) e,
    )

name_front_takes : (bytes x rest : List ℕ) → name_front_at bytes ≡ Some (x, rest) → IsWholeName x × (bytes ≡ same x ++ rest)
unfolding name_front_at
name_front_takes bytes x rest e =
    bound (IsWholeName x × (bytes ≡ same x ++ rest)) (field_at 0x30 bytes) (λ (f : Part × List ℕ). cond (is_name f.0) (Some (f.0.whole, f.1)) None) (x, rest) e (λ f read e1.
    passed (IsWholeName x × (bytes ≡ same x ++ rest)) (is_name f.0) (f.0.whole, f.1) (x, rest) e1 (λ h k. name_by bytes x rest f.0 f.1 (field_takes 0x30 bytes f.0 f.1 read) h k))

name_front_spelled : (content rest : List ℕ) → length content < 2 ^ 32 → IsTrue (is_name (part 0x30 content)) → name_front_at (element 0x30 content ++ rest) ≡ Some (element 0x30 content, rest)
unfolding name_front_at
name_front_spelled content rest counted h = rw (field_again 0x30 content rest (omega arith) counted, h) refl

name_front_again : (x rest : List ℕ) → IsWholeName x → name_front_at (same x ++ rest) ≡ Some (x, rest)
name_front_again x rest h = subst (λ (l : List ℕ). name_front_at (l ++ rest) ≡ Some (l, rest)) (sym h.alone.spelled) (name_front_spelled h.content rest h.alone.counted h.is_name)

pub name_front : IsFront name_front_at same IsWholeName
name_front = record { takes = name_front_takes; again = name_front_again }

-- a general name at the front
general_by : (bytes : List ℕ) (p : Part) (rest : List ℕ) (f : Part × List ℕ) → IsTaken bytes f.0 f.1 → IsTrue (is_general f.0) → f ≡ (p, rest) → IsWholeGeneral p × (bytes ≡ whole_of p ++ rest)
general_by bytes p rest f t h e =
    subst (λ (z : Part × List ℕ). IsWholeGeneral z.0 × (bytes ≡ whole_of z.0 ++ z.1)) e (record { alone = t.element_is; general = (general_test f.0).0 h }, t.parts)

general_front_takes : (bytes : List ℕ) (p : Part) (rest : List ℕ) → general_front_at bytes ≡ Some (p, rest) → IsWholeGeneral p × (bytes ≡ whole_of p ++ rest)
unfolding general_front_at
general_front_takes bytes p rest e =
    bound (IsWholeGeneral p × (bytes ≡ whole_of p ++ rest)) (ok_of (element_at bytes)) (λ (f : Part × List ℕ). cond (is_general f.0) (Some f) None) (p, rest) e (λ f read e1.
    passed (IsWholeGeneral p × (bytes ≡ whole_of p ++ rest)) (is_general f.0) f (p, rest) e1 (λ h k. general_by bytes p rest f (element_takes bytes f.0 f.1 (ok_is (element_at bytes) f read)) h k))

part_of_parts : (p : Part) → p.whole ≡ element p.tag p.content → part p.tag p.content ≡ p
part_of_parts p e = ap (λ (l : List ℕ). let q : Part = record { tag = p.tag; content = p.content; whole = l } in q) (sym e)

general_front_again : (p : Part) (rest : List ℕ) → IsWholeGeneral p → general_front_at (whole_of p ++ rest) ≡ Some (p, rest)
unfolding general_front_at
general_front_again p rest h =
    let same_part = part_of_parts p h.alone.spelled in
    let read : element_at (whole_of p ++ rest) ≡ Ok (p, rest) = element_reads (whole_of p ++ rest) p.whole p.content rest p.tag h.alone refl ∙ ap (λ (q : Part). Ok (q, rest)) same_part in
    let test : is_general p ≡ true = (general_test p).1 h.general in
    rw (read, test) refl

pub general_front : IsFront general_front_at whole_of IsWholeGeneral
general_front = record { takes = general_front_takes; again = general_front_again }
