-- A test of all items of a content tells that it is a row of elements that pass.
use Rattle.std.proofs.Common.{◌≡◌, ℕ, Bool, true, false, ◌&&◌, List, [], ◌∷◌, map, Result, Ok, Err, IsTrue, ◌↔◌, refl, sym, ap, subst, arith}
use Rattle.std.specs.Prelude.{All}
use Rattle.std.specs.List.{list_all}
use Rattle.std.proofs.lemmas.List.Elements.{All-cons, All-head, All-tail}
use Rattle.der_base.specs.Reading.{Part}
use Rattle.der_base.specs.Row.{items_of}
use Rattle.der_base.specs.declared.fault.DerFault.{DerFault}
use Rattle.der_base.proofs.RowLemmas.{row_is_read}
use Rattle.asn_types.specs.Rows.{IsRowOf, passes}

-- both of two tests hold
pub both : (a b : Bool) → IsTrue (a && b) → IsTrue a × IsTrue b
both true b h = (refl, h)
both false b h = cc

pub and_both : (a b : Bool) → IsTrue a → IsTrue b → IsTrue (a && b)
and_both true b h k = k
and_both false b h k = h

-- the elements that were read
abbrev read_parts : List (Result Part DerFault) → List Part
read_parts [] = []
read_parts (Ok p ∷ items) = p ∷ read_parts items
read_parts (Err f ∷ items) = read_parts items

all_read : (test : Part → Bool) (items : List (Result Part DerFault)) → IsTrue (list_all (passes test) items) → items ≡ map Ok (read_parts items)
all_read test [] h = refl
all_read test (Ok p ∷ items) h = ap (λ (l : List (Result Part DerFault)). Ok p ∷ l) (all_read test items (both (test p) (list_all (passes test) items) h).1)
all_read test (Err f ∷ items) h = cc

all_pass : (test : Part → Bool) (Form : Part → Type 0) → ((p : Part) → IsTrue (test p) → Form p) → (items : List (Result Part DerFault)) → IsTrue (list_all (passes test) items) → All Form (read_parts items)
all_pass test Form means [] h = λ k d lt. absurd (omega arith)
all_pass test Form means (Ok p ∷ items) h =
    let parts = both (test p) (list_all (passes test) items) h in
    All-cons Form p (read_parts items) (means p parts.0) (all_pass test Form means items parts.1)
all_pass test Form means (Err f ∷ items) h = cc

pass_all : (test : Part → Bool) (Form : Part → Type 0) → ((p : Part) → Form p → IsTrue (test p)) → (parts : List Part) → All Form parts → IsTrue (list_all (passes test) (map Ok parts))
pass_all test Form means [] h = refl
pass_all test Form means (p ∷ parts) h = and_both (test p) _ (means p (All-head Form p parts h)) (pass_all test Form means parts (All-tail Form p parts h))

-- the test of all items, and the row of elements of the form
pub row_of : (test : Part → Bool) (Form : Part → Type 0) → ((p : Part) → IsTrue (test p) ↔ Form p) → (content : List ℕ) → IsTrue (list_all (passes test) (items_of content)) ↔ IsRowOf Form content
row_of test Form means content = (
  λ h. record {
    parts = read_parts (items_of content);
    row = (row_is_read content (read_parts (items_of content))).0 (all_read test (items_of content) h);
    each = all_pass test Form (λ p. (means p).0) (items_of content) h;
  },
  λ r. subst (λ (items : List (Result Part DerFault)). IsTrue (list_all (passes test) items)) (sym ((row_is_read content r.parts).1 r.row)) (pass_all test Form (λ p. (means p).1) r.parts r.each),
)
