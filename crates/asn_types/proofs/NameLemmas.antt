-- The tests of names and what they tell.
use Rattle.std.proofs.Common.{◌≡◌, ◌≢◌, ℕ, ◌%◌, ◌^◌, ◌<◌, ◌++◌, append-nil, Bool, true, false, not, eqb, cond, List, [], ◌∷◌, length, Result, Ok, Err, IfOk, is_ok, IsTrue, ◌↔◌, refl, sym, subst, arith, eqb-true, eq-eqb}
use Rattle.std.specs.Prelude.{All}
use Rattle.std.proofs.lemmas.Bool.Decides.{nat_tests}
use Rattle.std.proofs.lemmas.List.Elements.{All-cons}
use Rattle.der_base.specs.Element.{element, IsElement}
use Rattle.der_base.specs.Reading.{Part, part}
use Rattle.der_base.specs.Row.{IsRow, items_of}
use Rattle.der_base.specs.Values.{is_oid, oid_at}
use Rattle.der_base.specs.declared.fault.DerFault.{DerFault}
use Rattle.der_base.specs.declared.fault.DerFault.TheVariants.{BadTag, BadLength}
use Rattle.der_base.proofs.RowLemmas.{row_is_read}
use Rattle.asn_types.specs.Name.{IsAttribute, IsRelativeName, IsName, is_pair, is_attribute, is_relative_name, is_name, common_name, common_name_content, common_name_attribute}
use Rattle.asn_types.proofs.LengthLemmas.{length_element_lt, back_le}
use Rattle.asn_types.proofs.RowLemmas.{both, and_both, row_of}

-- no test is both, and no list is empty that begins
pub false_true : false ≡ true → ⊥
false_true h = cc

abbrev nil : List ℕ
nil = []

pub cons_nil : (x : ℕ) (l : List ℕ) → x ∷ l ≡ nil → ⊥
cons_nil x l h = cc

-- an element is an object identifier
oid_tests : (a b : Bool) (content : List ℕ) → IsTrue (is_ok {E = DerFault} (cond a (cond b (Ok content) (Err BadLength)) (Err BadTag))) → (a ≡ true) × (b ≡ true)
oid_tests true true content h = (refl, refl)
oid_tests true false content h = cc
oid_tests false b content h = cc

tests_oid : (a b : Bool) (content : List ℕ) → a ≡ true → b ≡ true → IsTrue (is_ok {E = DerFault} (cond a (cond b (Ok content) (Err BadLength)) (Err BadTag)))
tests_oid true true content h k = refl
tests_oid true false content h k = cc
tests_oid false b content h k = cc

pub oid_read : (p : Part) → IsTrue (is_ok (oid_at p)) → (p.tag ≡ 6) × IsTrue (is_oid p.content)
unfolding oid_at
oid_read p h = let t = oid_tests (eqb p.tag 6) (is_oid p.content) p.content h in (eqb-true _ _ t.0, t.1)

pub read_oid : (p : Part) → p.tag ≡ 6 → IsTrue (is_oid p.content) → IsTrue (is_ok (oid_at p))
unfolding oid_at
read_oid p e h = tests_oid (eqb p.tag 6) (is_oid p.content) p.content (eq-eqb _ _ e) h

pair_row : (p : Part) (items : List (Result Part DerFault)) → items ≡ items_of p.content → p.tag ≡ 0x30 → IsTrue (is_pair items) → IsAttribute p
pair_row p [] e t h = cc
pair_row p (Err f ∷ items) e t h = cc
pair_row p (Ok kind ∷ []) e t h = cc
pair_row p (Ok kind ∷ Err f ∷ items) e t h = cc
pair_row p (Ok kind ∷ Ok value ∷ []) e t h =
    let is = oid_read kind h in
    record {
      kind = kind;
      value = value;
      is_sequence = t;
      row = (row_is_read p.content (kind ∷ value ∷ [])).0 (sym e);
      is_identifier = is.0;
      identifier = is.1;
    }
pair_row p (Ok kind ∷ Ok value ∷ item ∷ items) e t h = cc

attribute_test : (p : Part) → IsTrue (is_attribute p) ↔ IsAttribute p
attribute_test p = (
  λ h. let parts = both (eqb p.tag 0x30) _ h in pair_row p (items_of p.content) refl (eqb-true _ _ parts.0) parts.1,
  λ a. and_both (eqb p.tag 0x30) _ (eq-eqb _ _ a.is_sequence) (subst (λ (items : List (Result Part DerFault)). IsTrue (is_pair items)) (sym ((row_is_read p.content (a.kind ∷ a.value ∷ [])).1 a.row)) (read_oid a.kind a.is_identifier a.identifier)),
)

-- a content is empty or not
pub not_empty : (l : List ℕ) → IsTrue (not (eqb (length l) 0)) ↔ (l ≢ [])
not_empty [] = (λ h e. false_true h, λ h. absurd (h refl))
not_empty (x ∷ l) = (λ h e. absurd (cons_nil x l e), λ h. grind (arith, nat_tests))

relative_test : (p : Part) → IsTrue (is_relative_name p) ↔ IsRelativeName p
relative_test p = (
  λ h.
      let parts = both (eqb p.tag 0x31) _ h in
      let inner = both (not (eqb (length p.content) 0)) _ parts.1 in
      record {
        is_set = eqb-true _ _ parts.0;
        some = (not_empty p.content).0 inner.0;
        attributes = (row_of is_attribute IsAttribute attribute_test p.content).0 inner.1;
      },
  λ r.
      and_both (eqb p.tag 0x31) _ (eq-eqb _ _ r.is_set)
      (and_both (not (eqb (length p.content) 0)) _ ((not_empty p.content).1 r.some)
      ((row_of is_attribute IsAttribute attribute_test p.content).1 r.attributes)),
)

-- the test of a name, and what it tells
pub name_test : (p : Part) → IsTrue (is_name p) ↔ IsName p
unfolding is_name
name_test p = (
  λ h.
      let parts = both (eqb p.tag 0x30) _ h in
      record {
        is_sequence = eqb-true _ _ parts.0;
        names = (row_of is_relative_name IsRelativeName relative_test p.content).0 parts.1;
      },
  λ r. and_both (eqb p.tag 0x30) _ (eq-eqb _ _ r.is_sequence) ((row_of is_relative_name IsRelativeName relative_test p.content).1 r.names),
)

-- one element is a row
single_row : (tag : ℕ) (content : List ℕ) → tag % 32 ≢ 31 → length content < 2 ^ 32 → IsRow (element tag content) (part tag content ∷ [])
single_row tag content low counted =
    ([], sym (append-nil (element tag content)), record { low_tag = low; counted = counted; spelled = refl }, refl)

element_some : (tag : ℕ) (content : List ℕ) → element tag content ≢ []
unfolding element
element_some tag content e = cons_nil tag _ e

one_of : (Form : Part → Type 0) (p : Part) → Form p → All Form (p ∷ [])
one_of Form p h = All-cons Form p [] h (λ k d lt. absurd (omega arith))

name_identifier : IsTrue (is_oid (0x55 ∷ 0x04 ∷ 0x03 ∷ []))
unfolding is_oid
name_identifier = refl

common_attribute : (text : List ℕ) → length text < 2 ^ 32 → IsAttribute (part 0x30 (element 0x06 (0x55 ∷ 0x04 ∷ 0x03 ∷ []) ++ element 0x0C text))
common_attribute text h = record {
  kind = part 0x06 (0x55 ∷ 0x04 ∷ 0x03 ∷ []);
  value = part 0x0C text;
  is_sequence = refl;
  row = (element 0x0C text, refl, record { low_tag = omega arith; counted = omega arith; spelled = refl }, single_row 0x0C text (omega arith) h);
  is_identifier = refl;
  identifier = name_identifier;
}

-- the name of a common name is a name
pub common_name_is : (text : List ℕ) → length (common_name text) < 2 ^ 32 → IsName (part 0x30 (common_name_content text))
common_name_is text h =
    let inner : List ℕ = element 0x06 (0x55 ∷ 0x04 ∷ 0x03 ∷ []) ++ element 0x0C text in
    let set : length (element 0x31 (element 0x30 inner)) < 2 ^ 32 = omega (arith, length_element_lt 0x30 (element 0x31 (element 0x30 inner))) in
    let attribute : length (element 0x30 inner) < 2 ^ 32 = omega (arith, length_element_lt 0x31 (element 0x30 inner)) in
    let parts : length inner < 2 ^ 32 = omega (arith, length_element_lt 0x30 inner) in
    let value : length text < 2 ^ 32 = omega (arith, length_element_lt 0x0C text, back_le (element 0x06 (0x55 ∷ 0x04 ∷ 0x03 ∷ [])) (element 0x0C text)) in
    record {
      is_sequence = refl;
      names = record {
        parts = part 0x31 (common_name_attribute text) ∷ [];
        row = single_row 0x31 (common_name_attribute text) (omega arith) attribute;
        each = one_of IsRelativeName (part 0x31 (common_name_attribute text)) (record {
          is_set = refl;
          some = element_some 0x30 inner;
          attributes = record {
            parts = part 0x30 inner ∷ [];
            row = single_row 0x30 inner (omega arith) parts;
            each = one_of IsAttribute (part 0x30 inner) (common_attribute text value);
          };
        });
      };
    }

-- octets that were written so are the element of a name
pub named_by : {E : Type 0} (r : Result (List ℕ) E) (text : List ℕ) → length (common_name text) < 2 ^ 32 → IfOk r (λ octets. octets ≡ common_name text) → IfOk r (λ octets. IsElement octets 0x30 (common_name_content text) × IsName (part 0x30 (common_name_content text)))
named_by (Ok octets) text h e = (record { low_tag = omega arith; counted = omega (arith, length_element_lt 0x30 (common_name_content text)); spelled = e }, common_name_is text h)
named_by (Err f) text h e = tt
