-- Rows are read exactly where they are spelled.
use Rattle.std.proofs.Common.{◌≡◌, ◌≢◌, ℕ, zero, suc, ◌≤◌, ◌%◌, ◌^◌, ◌<◌, ◌++◌, Bool, true, false, cond, eqb, List, [], ◌∷◌, length, map, Option, Some, None, Result, Ok, Err, eqb-true, eq-eqb, refl, sym, ap, subst, ◌∙◌, arith}
use Rattle.der_base.specs.Element.{element}
use Rattle.der_base.specs.Reading.{Part, part, element_at}
use Rattle.der_base.specs.Row.{IsRow, items_of}
use Rattle.der_base.specs.declared.fault.DerFault.{DerFault}
use Rattle.der_base.proofs.RowLemmas.{row_is_read, items-none, items-read, items-fault, rest_is_less}
use Rattle.asn_fields.specs.Fields.{◌>>=◌}
use Rattle.asn_fields.specs.Forms.{IsRead}
use Rattle.asn_fields.specs.Rows.{RowForm, IsRowContent, row_of, entries_spelling, FitsEntries, item_at, each_at, entries_at, row_at, with_front}
use Rattle.asn_fields.proofs.FieldLemmas.{bound, some_same, none_some}

-- the entry that an item is, and how it is spelled
record IsItem {X : Type 0} (tag : ℕ) (spelling : X → List ℕ) (Fits : X → Type 0) (p : Part) (x : X) : Type 0 where
  pub tagged : p.tag ≡ tag
  pub fits : Fits x
  pub spelled : p.content ≡ spelling x

item_takes : {X : Type 0} {inner : List ℕ → Option X} {spelling : X → List ℕ} {Fits : X → Type 0} → IsRead inner spelling Fits → (tag : ℕ) (p : Part) (x : X) → item_at inner tag (Ok p) ≡ Some x → IsItem tag spelling Fits p x
item_takes law tag p x e =
    let t = test_takes (eqb p.tag tag) _ x e in
    let l = law.takes p.content x t.1 in
    record { tagged = eqb-true p.tag tag t.0; fits = l.0; spelled = l.1 }
  where
    test_takes : {X : Type 0} (b : Bool) (o : Option X) (x : X) → cond b o None ≡ Some x → (b ≡ true) × (o ≡ Some x)
    test_takes true o x e = (refl, e)
    test_takes false o x e = absurd (none_some x e)

item_again : {X : Type 0} {inner : List ℕ → Option X} {spelling : X → List ℕ} {Fits : X → Type 0} → IsRead inner spelling Fits → (tag : ℕ) (x : X) → Fits x → item_at inner tag (Ok (part tag (spelling x))) ≡ Some x
item_again law tag x fits = rw (eq-eqb tag tag refl, law.again x fits) refl

-- the items of a row of entries
abbrev entry_parts : {X : Type 0} → ℕ → (X → List ℕ) → List X → List Part
entry_parts tag spelling [] = []
entry_parts tag spelling (x ∷ xs) = part tag (spelling x) ∷ entry_parts tag spelling xs

is_row : {X : Type 0} (tag : ℕ) (spelling : X → List ℕ) (Fits : X → Type 0) (xs : List X) → tag % 32 ≢ 31 → FitsEntries spelling Fits xs → IsRow (entries_spelling tag spelling xs) (entry_parts tag spelling xs)
is_row tag spelling Fits [] low fits = refl
is_row tag spelling Fits (x ∷ xs) low fits = (entries_spelling tag spelling xs, refl, record { low_tag = low; counted = fits.1; spelled = refl }, is_row tag spelling Fits xs low fits.2)

each_again : {X : Type 0} {inner : List ℕ → Option X} {spelling : X → List ℕ} {Fits : X → Type 0} → IsRead inner spelling Fits → (tag : ℕ) (xs : List X) → FitsEntries spelling Fits xs → each_at inner tag (map Ok (entry_parts tag spelling xs)) ≡ Some xs
each_again law tag [] fits = refl
each_again law tag (x ∷ xs) fits = rw (item_again law tag x fits.0, each_again law tag xs fits.2) refl

entries_again : {X : Type 0} {inner : List ℕ → Option X} {spelling : X → List ℕ} {Fits : X → Type 0} → IsRead inner spelling Fits → (tag : ℕ) → tag % 32 ≢ 31 → (xs : List X) → FitsEntries spelling Fits xs → entries_at inner tag (entries_spelling tag spelling xs) ≡ Some xs
unfolding entries_at
entries_again {inner} {spelling} {Fits} law tag low xs fits =
    ap (each_at inner tag) ((row_is_read (entries_spelling tag spelling xs) (entry_parts tag spelling xs)).1 (is_row tag spelling Fits xs low fits)) ∙ each_again law tag xs fits

-- each part is the entry that stands in its place
abbrev Pairs : {X : Type 0} → ℕ → (X → List ℕ) → (X → Type 0) → List Part → List X → Type 0
Pairs tag spelling Fits [] [] = Unit {0}
Pairs tag spelling Fits [] (x ∷ xs) = ⊥
Pairs tag spelling Fits (p ∷ ps) [] = ⊥
Pairs tag spelling Fits (p ∷ ps) (x ∷ xs) = IsItem tag spelling Fits p x × Pairs tag spelling Fits ps xs

-- the parts that were read, and what they are
record IsEach {X : Type 0} (tag : ℕ) (spelling : X → List ℕ) (Fits : X → Type 0) (items : List (Result Part DerFault)) (xs : List X) : Type 0 where
  pub parts : List Part
  pub items_are : items ≡ map Ok parts
  pub pairs : Pairs tag spelling Fits parts xs

abbrev no_entries : (X : Type 0) → List X
no_entries X = []

each_none : {X : Type 0} (tag : ℕ) (spelling : X → List ℕ) (Fits : X → Type 0) (xs : List X) → Some (no_entries X) ≡ Some xs → IsEach tag spelling Fits [] xs
each_none {X} tag spelling Fits xs e =
    subst (λ (l : List X). IsEach tag spelling Fits [] l) (some_same (no_entries X) xs e) (record { parts = []; items_are = refl; pairs = tt })

each_more : {X : Type 0} (tag : ℕ) (spelling : X → List ℕ) (Fits : X → Type 0) (p : Part) (items : List (Result Part DerFault)) (x : X) (xs all : List X) → IsItem tag spelling Fits p x → IsEach tag spelling Fits items xs → x ∷ xs ≡ all → IsEach tag spelling Fits (Ok p ∷ items) all
each_more {X} tag spelling Fits p items x xs all is each e =
    subst (λ (l : List X). IsEach tag spelling Fits (Ok p ∷ items) l) e (record {
      parts = p ∷ each.parts;
      items_are = ap (λ (l : List (Result Part DerFault)). Ok p ∷ l) each.items_are;
      pairs = (is, each.pairs);
    })

each_takes : {X : Type 0} {inner : List ℕ → Option X} {spelling : X → List ℕ} {Fits : X → Type 0} → IsRead inner spelling Fits → (tag : ℕ) (items : List (Result Part DerFault)) (xs : List X) → each_at inner tag items ≡ Some xs → IsEach tag spelling Fits items xs
each_takes {spelling} {Fits} law tag [] xs e = each_none tag spelling Fits xs e
each_takes {inner} {spelling} {Fits} law tag (Ok p ∷ items) all e =
    bound (IsEach tag spelling Fits (Ok p ∷ items) all) (item_at inner tag (Ok p)) _ all e (λ x got e1.
    bound (IsEach tag spelling Fits (Ok p ∷ items) all) (each_at inner tag items) _ all e1 (λ xs others e2.
    each_more tag spelling Fits p items x xs all (item_takes law tag p x got) (each_takes law tag items xs others) (some_same (x ∷ xs) all e2)))
each_takes law tag (Err f ∷ items) all e = absurd (none_some all e)

row_spelled : {X : Type 0} (tag : ℕ) (spelling : X → List ℕ) (Fits : X → Type 0) (content : List ℕ) (ps : List Part) (xs : List X) → IsRow content ps → Pairs tag spelling Fits ps xs → FitsEntries spelling Fits xs × (content ≡ entries_spelling tag spelling xs)
row_spelled tag spelling Fits content [] [] row pairs = (tt, row)
row_spelled tag spelling Fits content [] (x ∷ xs) row pairs = absurd pairs
row_spelled tag spelling Fits content (p ∷ ps) [] row pairs = absurd pairs
row_spelled tag spelling Fits content (p ∷ ps) (x ∷ xs) row pairs =
    let more = row_spelled tag spelling Fits row.0 ps xs row.3 pairs.1 in
    let is = row.2 in (
      (pairs.0.fits, subst (λ (l : List ℕ). length l < 2 ^ 32) pairs.0.spelled is.counted, more.0),
      row.1 ∙ ap (λ (l : List ℕ). l ++ row.0) (is.spelled ∙ ap (λ (n : ℕ). element n p.content) pairs.0.tagged ∙ ap (element tag) pairs.0.spelled) ∙ ap (λ (l : List ℕ). element tag (spelling x) ++ l) more.1,
    )

entries_take : {X : Type 0} {inner : List ℕ → Option X} {spelling : X → List ℕ} {Fits : X → Type 0} → IsRead inner spelling Fits → (tag : ℕ) (content : List ℕ) (xs : List X) → entries_at inner tag content ≡ Some xs → FitsEntries spelling Fits xs × (content ≡ entries_spelling tag spelling xs)
unfolding entries_at
entries_take {spelling} {Fits} law tag content xs e =
    let each = each_takes law tag (items_of content) xs e in
    row_spelled tag spelling Fits content each.parts xs ((row_is_read content each.parts).0 each.items_are) each.pairs

-- The law of the entries of a row.
pub entries_are_read : {X : Type 0} {inner : List ℕ → Option X} {spelling : X → List ℕ} {Fits : X → Type 0} → IsRead inner spelling Fits → (tag : ℕ) → tag % 32 ≢ 31 → IsRead (entries_at inner tag) (entries_spelling tag spelling) (FitsEntries spelling Fits)
entries_are_read law tag low = record { takes = entries_take law tag; again = entries_again law tag low }

-- a row that was read is spelled so
pub row_takes : {X : Type 0} {inner : List ℕ → Option X} {spelling : X → List ℕ} {Fits : X → Type 0} → IsRead inner spelling Fits → (tag : ℕ) (content : List ℕ) (row : RowForm X) → row_at inner tag content ≡ Some row → IsRowContent tag spelling Fits content row
unfolding row_at
row_takes {X} {inner} {spelling} {Fits} law tag content row e =
    bound (IsRowContent tag spelling Fits content row) (entries_at inner tag content) _ row e (λ xs read same.
    let t = entries_take law tag content xs read in
    record { entries = xs; fit = t.0; spelled = t.1; shown = sym (some_same (row_of xs) row same) })

-- and what is spelled so is read
pub row_again : {X : Type 0} {inner : List ℕ → Option X} {spelling : X → List ℕ} {Fits : X → Type 0} → IsRead inner spelling Fits → (tag : ℕ) → tag % 32 ≢ 31 → (content : List ℕ) (row : RowForm X) → IsRowContent tag spelling Fits content row → row_at inner tag content ≡ Some row
unfolding row_at
row_again {X} {inner} law tag low content row is =
    rw (ap (entries_at inner tag) is.spelled ∙ entries_again law tag low is.entries is.fit) (ap (λ (r : RowForm X). Some r) (sym is.shown))

-- The items of octets are not more than the octets.
items_fit_case : (b : ℕ) (bytes : List ℕ) (r : Result (Part × List ℕ) DerFault) → element_at (b ∷ bytes) ≡ r → ((rest : List ℕ) → length rest < length (b ∷ bytes) → length (items_of rest) ≤ length rest) → length (items_of (b ∷ bytes)) ≤ length (b ∷ bytes)
items_fit_case b bytes (Ok (p, rest)) e again =
    let less = rest_is_less (b ∷ bytes) p rest e in
    omega (arith, ap length (items-read (b ∷ bytes) p rest e), less, again rest less)
items_fit_case b bytes (Err f) e again = omega (arith, ap length (items-fault b bytes f e))

items_fit_by : (n : ℕ) (bytes : List ℕ) → length bytes ≤ n → length (items_of bytes) ≤ length bytes
items_fit_by n [] h = subst (λ (l : List (Result Part DerFault)). length l ≤ 0) (sym items-none) (omega arith)
items_fit_by zero (b ∷ bytes) h = absurd (omega (arith, h))
items_fit_by (suc n) (b ∷ bytes) h = items_fit_case b bytes (element_at (b ∷ bytes)) refl (λ rest less. items_fit_by n rest (omega (arith, less, h)))

pub items_fit : (bytes : List ℕ) → length (items_of bytes) ≤ length bytes
items_fit bytes = items_fit_by (length bytes) bytes (omega arith)

-- what holds of a loop before its first item
front_none : {X : Type 0} (o : Option (List X)) → o >>= (λ xs. Some (row_of xs)) ≡ with_front 0 None o
front_none (Some xs) = refl
front_none None = refl

pub row_front : {X : Type 0} (inner : List ℕ → Option X) (tag : ℕ) (content : List ℕ) (items : List (Result Part DerFault)) → items ≡ items_of content → row_at inner tag content ≡ with_front 0 None (each_at inner tag items)
unfolding row_at entries_at
row_front inner tag content items e = front_none (each_at inner tag (items_of content)) ∙ ap (λ (l : List (Result Part DerFault)). with_front 0 None (each_at inner tag l)) (sym e)
