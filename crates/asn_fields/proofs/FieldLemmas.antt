-- Fields are read exactly where they are spelled.
use Rattle.std.proofs.Common.{◌≡◌, ◌≢◌, ℕ, ◌%◌, ◌^◌, ◌<◌, ◌++◌, Bool, true, false, cond, eqb, List, [], ◌∷◌, length, Option, Some, None, Result, Ok, Err, IfOk, append-nil, eqb-true, refl, sym, ap, subst, ◌∙◌, arith, rules}
use Rattle.std.proofs.lemmas.Bool.Decides.{nat_tests}
use Rattle.der_base.specs.Element.{element, length_octets, IsElement}
use Rattle.der_base.specs.Reading.{Part, part, part_of, element_at}
use Rattle.der_base.specs.declared.element.Element.{Element}
use Rattle.der_base.specs.declared.fault.DerFault.{DerFault}
use Rattle.der_base.proofs.ElementLemmas.{IsTaken, element_takes, element_reads}
use Rattle.asn_fields.specs.Fields.{◌>>=◌, Gives, with_tag, field_at, sole_at, optional_at, inside_with, optional_with}
use Rattle.asn_fields.specs.Forms.{IsRead, IsField, Above, optional_spelling, FitsOptional}
use Rattle.asn_fields.specs.declared.fault.BadForm.{BadForm}

abbrev none_of : (B : Type 0) → Option B
none_of B = None

pub none_some : {B : Type 0} (y : B) → none_of B ≡ Some y → ⊥
none_some y e = cc

pub some_same : {A : Type 0} (x y : A) → Some x ≡ Some y → x ≡ y
some_same x y e = cc

-- what a reading that went well went through
pub bound : {A B : Type 0} (P : Type 0) → (r : Option A) (f : A → Option B) (y : B) → (r >>= f) ≡ Some y → ((x : A) → r ≡ Some x → f x ≡ Some y → P) → P
bound P (Some x) f y e go = go x refl e
bound P None f y e go = absurd (none_some y e)

-- a test that was passed
pub passed : {A : Type 0} (P : Type 0) → (b : Bool) (x y : A) → cond b (Some x) None ≡ Some y → (b ≡ true → x ≡ y → P) → P
passed P true x y e go = go refl (some_same x y e)
passed P false x y e go = absurd (none_some y e)

-- what is read is an element with this tag
pub record IsTagged (tag : ℕ) (bytes : List ℕ) (p : Part) (rest : List ℕ) : Type 0 where
  pub element_is : IsElement p.whole tag p.content
  pub parts : bytes ≡ p.whole ++ rest
  pub part_is : p ≡ part tag p.content

tagged_by : (tag : ℕ) (bytes : List ℕ) (p : Part) (rest : List ℕ) → IsTaken bytes p rest → p.tag ≡ tag → IsTagged tag bytes p rest
tagged_by tag bytes p rest t e = record {
  element_is = subst (λ (n : ℕ). IsElement p.whole n p.content) e t.element_is;
  parts = t.parts;
  part_is = t.part_is ∙ ap (λ (n : ℕ). part n p.content) e;
}

with_takes : (tag : ℕ) (bytes : List ℕ) (p : Part) (rest : List ℕ) (r : Result (Part × List ℕ) DerFault) → element_at bytes ≡ r → with_tag tag r ≡ Some (p, rest) → IsTagged tag bytes p rest
with_takes tag bytes p rest (Ok q) e h =
    passed (IsTagged tag bytes p rest) (eqb q.0.tag tag) q (p, rest) h (λ t same.
    let first : q.0 ≡ p = ap (λ (x : Part × List ℕ). x.0) same in
    let second : q.1 ≡ rest = ap (λ (x : Part × List ℕ). x.1) same in
    let taken = element_takes bytes q.0 q.1 e in
    tagged_by tag bytes p rest
    (subst (λ (l : List ℕ). IsTaken bytes p l) second (subst (λ (x : Part). IsTaken bytes x q.1) first taken))
    (subst (λ (x : Part). x.tag ≡ tag) first (eqb-true q.0.tag tag t)))
with_takes tag bytes p rest (Err f) e h = absurd (none_some (p, rest) h)

pub field_takes : (tag : ℕ) (bytes : List ℕ) (p : Part) (rest : List ℕ) → field_at tag bytes ≡ Some (p, rest) → IsTagged tag bytes p rest
unfolding field_at
field_takes tag bytes p rest e = with_takes tag bytes p rest (element_at bytes) refl e

with_same : (tag : ℕ) (content rest : List ℕ) → with_tag tag (Ok (part tag content, rest)) ≡ Some (part tag content, rest)
with_same tag content rest = grind (arith, nat_tests)

pub field_reads : (tag : ℕ) (bytes octets content rest : List ℕ) → IsElement octets tag content → bytes ≡ octets ++ rest → field_at tag bytes ≡ Some (part tag content, rest)
unfolding field_at
field_reads tag bytes octets content rest is e = ap (with_tag tag) (element_reads bytes octets content rest tag is e) ∙ with_same tag content rest

pub field_again : (tag : ℕ) (content rest : List ℕ) → tag % 32 ≢ 31 → length content < 2 ^ 32 → field_at tag (element tag content ++ rest) ≡ Some (part tag content, rest)
field_again tag content rest t h = field_reads tag _ (element tag content) content rest (record { low_tag = t; counted = h; spelled = refl }) refl

empty_of : (l : List ℕ) → eqb (length l) 0 ≡ true → l ≡ []
empty_of [] h = refl
empty_of (x ∷ l) h = absurd (omega (arith, eqb-true (length (x ∷ l)) 0 h))

-- the same of the one element
pub sole_takes : (tag : ℕ) (bytes : List ℕ) (p : Part) → sole_at tag bytes ≡ Some p → IsTagged tag bytes p []
unfolding sole_at
sole_takes tag bytes p e =
    bound (IsTagged tag bytes p []) (field_at tag bytes) (λ (f : Part × List ℕ). cond (eqb (length f.1) 0) (Some f.0) None) p e (λ f read test.
    passed (IsTagged tag bytes p []) (eqb (length f.1) 0) f.0 p test (λ none same.
    let tagged = field_takes tag bytes f.0 f.1 read in
    subst (λ (l : List ℕ). IsTagged tag bytes p l) (empty_of f.1 none) (subst (λ (x : Part). IsTagged tag bytes x f.1) same tagged)))

pub sole_reads : (tag : ℕ) (bytes content : List ℕ) → IsElement bytes tag content → sole_at tag bytes ≡ Some (part tag content)
unfolding sole_at
sole_reads tag bytes content is = rw (field_reads tag bytes bytes content [] is (sym (append-nil bytes))) refl

pub sole_found : (tag : ℕ) (bytes : List ℕ) (r : Result Element BadForm) → Gives part_of r (sole_at tag bytes) → IfOk r (λ e. IsElement bytes tag e.content.now × (e.whole.now ≡ bytes))
sole_found tag bytes (Ok r) e =
    let t = sole_takes tag bytes (part_of r) e in
    let all : r.whole.now ≡ bytes = sym (t.parts ∙ append-nil r.whole.now) in
    (subst (λ (l : List ℕ). IsElement l tag r.content.now) all t.element_is, all)
sole_found tag bytes (Err f) e = search rules

pub sole_only : (tag : ℕ) (bytes : List ℕ) (r : Result Element BadForm) → Gives part_of r (sole_at tag bytes) → (content : List ℕ) → IsElement bytes tag content → Gives part_of r (Some (part tag content))
sole_only tag bytes (Ok r) e content is = sym (sole_reads tag bytes content is) ∙ e
sole_only tag bytes (Err f) e content is = sym (sole_reads tag bytes content is) ∙ e

-- one element, whose content is the value
abbrev pub content_at : ℕ → List ℕ → Option (List ℕ)
content_at tag bytes = sole_at tag bytes >>= λ p. Some p.content

content_takes : (tag : ℕ) (bytes content : List ℕ) → content_at tag bytes ≡ Some content → (length content < 2 ^ 32) × (bytes ≡ element tag content)
content_takes tag bytes content e =
    bound ((length content < 2 ^ 32) × (bytes ≡ element tag content)) (sole_at tag bytes) (λ (p : Part). Some p.content) content e (λ p read same.
    let s = sole_takes tag bytes p read in
    let c : p.content ≡ content = some_same p.content content same in
    (subst (λ (l : List ℕ). length l < 2 ^ 32) c s.element_is.counted, s.parts ∙ append-nil p.whole ∙ s.element_is.spelled ∙ ap (element tag) c))

content_again : (tag : ℕ) (content : List ℕ) → tag % 32 ≢ 31 → length content < 2 ^ 32 → content_at tag (element tag content) ≡ Some content
content_again tag content t h = rw (sole_reads tag (element tag content) content (record { low_tag = t; counted = h; spelled = refl })) refl

pub content_form : (tag : ℕ) → tag % 32 ≢ 31 → IsRead (content_at tag) (element tag) (λ content. length content < 2 ^ 32)
content_form tag t = record {
  takes = content_takes tag;
  again = λ content h. content_again tag content t h;
}

abbrev nil : List ℕ
nil = []

nil_cons : (x : ℕ) (l : List ℕ) → nil ≡ x ∷ l → ⊥
nil_cons x l e = cc

cons_head : (x y : ℕ) (l m : List ℕ) → x ∷ l ≡ y ∷ m → x ≡ y
cons_head x y l m e = cc

-- a field that may be left out, where one stands there
there : (tag : ℕ) (bytes more : List ℕ) (f : Part × List ℕ) → bytes ≡ tag ∷ more → field_at tag bytes ≡ Some f → optional_at tag bytes ≡ Some (Some f.0, f.1)
unfolding optional_at
there tag [] more f e h = absurd (nil_cons tag more e)
there tag (first ∷ rest) more f e h =
    let same : first ≡ tag = cons_head first tag rest more e in
    let test : eqb first tag ≡ true = grind (arith, nat_tests) in
    rw (test, h) refl

begins_tag : (tag : ℕ) (content rest : List ℕ) → element tag content ++ rest ≡ tag ∷ (length_octets (length content) ++ content ++ rest)
unfolding element
begins_tag tag content rest = refl

pub optional_above : (tag : ℕ) (rest : List ℕ) → Above tag rest → optional_at tag rest ≡ Some (None, rest)
unfolding optional_at
optional_above tag [] h = refl
optional_above tag (first ∷ rest) h = let test : eqb first tag ≡ false = grind (arith, nat_tests) in rw test refl

abbrev left_out : (X : Type 0) → List ℕ → Option X × List ℕ
left_out X bytes = (None, bytes)

cases_by : {X : Type 0} (P : Type 0) → (inner : List ℕ → Option X) (tag : ℕ) (bytes : List ℕ) (o : Option X) (rest : List ℕ) (b : Bool) → (cond b (field_at tag bytes >>= λ f. Some (Some f.0, f.1)) (Some (None, bytes)) >>= inside_with inner) ≡ Some (o, rest) → (o ≡ None → bytes ≡ rest → P) → ((p : Part) (x : X) → field_at tag bytes ≡ Some (p, rest) → inner p.content ≡ Some x → o ≡ Some x → P) → P
cases_by {X = X} P inner tag bytes o rest true e none some =
    bound P (field_at tag bytes >>= λ f. Some (Some f.0, f.1)) (inside_with inner) (o, rest) e (λ q read e1.
    bound P (field_at tag bytes) (λ (f : Part × List ℕ). Some (Some f.0, f.1)) q read (λ f field same.
    let q_is = some_same (Some f.0, f.1) q same in
    bound P (inner f.0.content) (λ (x : X). Some (Some x, f.1)) (o, rest) (subst (λ (z : Option Part × List ℕ). inside_with inner z ≡ Some (o, rest)) (sym q_is) e1) (λ x value last.
    let pair = some_same (Some x, f.1) (o, rest) last in
    some f.0 x (field ∙ ap (λ (l : List ℕ). Some (f.0, l)) (ap (λ (z : Option X × List ℕ). z.1) pair)) value (sym (ap (λ (z : Option X × List ℕ). z.0) pair)))))
cases_by {X = X} P inner tag bytes o rest false e none some =
    let pair = some_same (left_out X bytes) (o, rest) e in
    none (sym (ap (λ (z : Option X × List ℕ). z.0) pair)) (ap (λ (z : Option X × List ℕ). z.1) pair)

optional_cases : {X : Type 0} (P : Type 0) → (inner : List ℕ → Option X) (tag : ℕ) (bytes : List ℕ) (o : Option X) (rest : List ℕ) → optional_with inner tag bytes ≡ Some (o, rest) → (o ≡ None → bytes ≡ rest → P) → ((p : Part) (x : X) → field_at tag bytes ≡ Some (p, rest) → inner p.content ≡ Some x → o ≡ Some x → P) → P
unfolding optional_at
optional_cases {X = X} P inner tag [] o rest e none some =
    let pair = some_same (left_out X []) (o, rest) e in
    none (sym (ap (λ (z : Option X × List ℕ). z.0) pair)) (ap (λ (z : Option X × List ℕ). z.1) pair)
optional_cases {X = X} P inner tag (first ∷ more) o rest e none some = cases_by P inner tag (first ∷ more) o rest (eqb first tag) e none some

field_fits : {X : Type 0} (inner : List ℕ → Option X) (tag : ℕ) (spelling : X → List ℕ) (Fits : X → Type 0) → IsRead inner spelling Fits → (bytes : List ℕ) (o : Option X) (rest : List ℕ) → optional_with inner tag bytes ≡ Some (o, rest) → FitsOptional spelling Fits o × (bytes ≡ optional_spelling tag spelling o ++ rest)
field_fits {X = X} inner tag spelling Fits law bytes o rest e =
    optional_cases (FitsOptional spelling Fits o × (bytes ≡ optional_spelling tag spelling o ++ rest)) inner tag bytes o rest e
    (λ none same. subst (λ (z : Option X). FitsOptional spelling Fits z × (bytes ≡ optional_spelling tag spelling z ++ rest)) (sym none) (tt, same))
    (λ p x field value some.
    let t = field_takes tag bytes p rest field in
    let w = law.takes p.content x value in
    subst (λ (z : Option X). FitsOptional spelling Fits z × (bytes ≡ optional_spelling tag spelling z ++ rest)) (sym some)
    ((w.0, subst (λ (l : List ℕ). length l < 2 ^ 32) w.1 t.element_is.counted), t.parts ∙ ap (λ (l : List ℕ). l ++ rest) (t.element_is.spelled ∙ ap (element tag) w.1)))

field_spelled : {X : Type 0} (inner : List ℕ → Option X) (tag : ℕ) (spelling : X → List ℕ) (Fits : X → Type 0) → tag % 32 ≢ 31 → IsRead inner spelling Fits → (o : Option X) (rest : List ℕ) → FitsOptional spelling Fits o → Above tag rest → optional_with inner tag (optional_spelling tag spelling o ++ rest) ≡ Some (o, rest)
field_spelled {X = X} inner tag spelling Fits low law None rest fits above = rw (optional_above tag rest above) refl
field_spelled {X = X} inner tag spelling Fits low law (Some x) rest fits above =
    let bytes = element tag (spelling x) ++ rest in
    let field = field_again tag (spelling x) rest low fits.1 in
    let here = there tag bytes _ (part tag (spelling x), rest) (begins_tag tag (spelling x) rest) field in
    ap (λ (q : Option (Option Part × List ℕ)). q >>= inside_with inner) here ∙ ap (λ (v : Option X). v >>= λ y. Some (Some y, rest)) (law.again x fits.0)

-- The law of a field that may be left out.
pub optional_field : {X : Type 0} (inner : List ℕ → Option X) (tag : ℕ) (spelling : X → List ℕ) (Fits : X → Type 0) → tag % 32 ≢ 31 → IsRead inner spelling Fits → IsField (optional_with inner tag) tag spelling Fits
optional_field inner tag spelling Fits low law = record {
  takes = field_fits inner tag spelling Fits law;
  again = field_spelled inner tag spelling Fits low law;
}

pub Above_optional : {X : Type 0} (low tag : ℕ) (spelling : X → List ℕ) (o : Option X) (rest : List ℕ) → low < tag → Above tag rest → Above low (optional_spelling tag spelling o ++ rest)
unfolding element
Above_optional low tag spelling None [] h above = tt
Above_optional low tag spelling None (first ∷ rest) h above = omega (arith, above)
Above_optional low tag spelling (Some x) rest h above = h
