-- The values of a name, with one field more at the front.
use Rattle.std.specs.Prelude.{◌≡◌, ℕ, ◌≤◌, ◌-◌, Bool, true, false, List, [], ◌∷◌, length, map, take, drop}
use Rattle.std.proofs.Common.{arith, get_or, ap, sym, ◌∙◌}
use Rattle.std.proofs.lemmas.List.{take_all}
use Rattle.std.specs.Str.{str_eq_ignore_ascii_case}
use Rattle.httparse.specs.declared.spans.HeaderSpan.{HeaderSpan}
use Rattle.httparse.specs.Spans.{span_bytes, header_bytes}
use Rattle.http_heads.specs.declared.fields.Values.{Values}
use Rattle.http_heads.specs.Heads.{values}
use Rattle.http_heads.specs.Values.{AreValues}

-- the first field has the name
pub values_more : (buffer name : List ℕ) (fields : List HeaderSpan) (d : HeaderSpan) (text first : List ℕ) (others all : Values) (found : Bool)
    → 1 ≤ length fields → text ≡ span_bytes buffer (get_or fields 0 d).name → first ≡ span_bytes buffer (get_or fields 0 d).value
    → found ≡ str_eq_ignore_ascii_case text name → found ≡ true
    → AreValues (values name (map (header_bytes buffer) (take (length fields - 1) (drop 1 fields)))) others
    → ((vs : List (List ℕ)) → AreValues vs others → AreValues (first ∷ vs) all)
    → AreValues (values name (map (header_bytes buffer) fields)) all
values_more buffer name [] d text first others all found some is value test here rest behind = absurd (omega (arith, some))
values_more buffer name (f ∷ fs) d text first others all found some is value test here rest behind =
    let same : str_eq_ignore_ascii_case (span_bytes buffer f.name) name ≡ true = ap (λ (t : List ℕ). str_eq_ignore_ascii_case t name) (sym is) ∙ sym test ∙ here in
    let all_left : take (length (f ∷ fs) - 1) fs ≡ fs = take_all (length (f ∷ fs) - 1) fs (omega arith) in
    rw (same, ← value) (behind _ (rw all_left at rest))

-- the first field has another name
pub values_less : (buffer name : List ℕ) (fields : List HeaderSpan) (d : HeaderSpan) (text : List ℕ) (all : Values) (found : Bool)
    → 1 ≤ length fields → text ≡ span_bytes buffer (get_or fields 0 d).name
    → found ≡ str_eq_ignore_ascii_case text name → found ≡ false
    → AreValues (values name (map (header_bytes buffer) (take (length fields - 1) (drop 1 fields)))) all
    → AreValues (values name (map (header_bytes buffer) fields)) all
values_less buffer name [] d text all found some is test here rest = absurd (omega (arith, some))
values_less buffer name (f ∷ fs) d text all found some is test here rest =
    let same : str_eq_ignore_ascii_case (span_bytes buffer f.name) name ≡ false = ap (λ (t : List ℕ). str_eq_ignore_ascii_case t name) (sym is) ∙ sym test ∙ here in
    let all_left : take (length (f ∷ fs) - 1) fs ≡ fs = take_all (length (f ∷ fs) - 1) fs (omega arith) in
    rw same (rw all_left at rest)
