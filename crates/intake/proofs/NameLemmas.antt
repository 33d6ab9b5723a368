-- The name of a founded service is the one that is written of its text.
use Rattle.std.proofs.Common.{◌≡◌, ℕ, ◌++◌, Bool, true, false, cond, List, [], ◌∷◌, length, append-nil, eqb, eqb-true, Option, Some, None, Ok, Err, IsTrue, is_some, refl, sym, ap, subst, ◌∙◌, arith}
use Rattle.std.specs.Prelude.{Result, ◌&&◌, ◌==◌, unwrap_or}
use Rattle.std.specs.Str.{bytes_eq}
use Rattle.std.proofs.lemmas.Bool.{and_parts}
use Rattle.der_base.specs.Element.{element}
use Rattle.der_base.specs.Reading.{Part, element_at}
use Rattle.der_base.specs.declared.fault.DerFault.{DerFault}
use Rattle.der_base.proofs.ElementLemmas.{element_takes}
use Rattle.asn_fields.proofs.FieldLemmas.{none_some, some_same, passed}
use Rattle.asn_types.specs.Name as names
use Rattle.pbmac_grammar.proofs.PieceLemmas.{same_octets}
use Rattle.deal_changes.specs.Bind.{◌>>=◌}
use Rattle.deal_changes.specs.Spki.{tagged, content_at, only_at, common_name_oid, is_name_text, common_name, is_ca_name}
use Rattle.deal_changes.specs.declared.change.Settings.{Settings}
use Rattle.deal_model.specs.declared.asking.Ask.{Ask}
use Rattle.deal_model.specs.Views.{History, no_settings, settings_of}
use Rattle.deal_table.specs.declared.look.Look.{Look}
use Rattle.deal_table.specs.History.{IsFounded, name_of, look_of}
use Rattle.intake.specs.Checking.{name_for}

-- what a reading that went well went through
read : {A B : Type 0} (P : Type 0) → (r : Option A) (f : A → Option B) (y : B) → (r >>= f) ≡ Some y → ((x : A) → r ≡ Some x → f x ≡ Some y → P) → P
read P (Some x) f y e go = go x refl e
read P None f y e go = absurd (none_some y e)

spelled : (octets : List ℕ) (p : Part) (x : List ℕ) → element_at octets ≡ Ok (p, x) → octets ≡ element p.tag p.content ++ x
spelled octets p x e =
    let t = element_takes octets p x e in
    t.parts ∙ ap (λ (w : List ℕ). w ++ x) t.element_is.spelled

content_by : (tag : ℕ) (octets content rest : List ℕ) (r : Result (Part × List ℕ) DerFault) → element_at octets ≡ r → tagged tag r ≡ Some (content, rest) → octets ≡ element tag content ++ rest
content_by tag octets content rest (Err f) is e = absurd (none_some (content, rest) e)
content_by tag octets content rest (Ok r) is e =
    passed (octets ≡ element tag content ++ rest) (r.0.tag == tag) (r.0.content, r.1) (content, rest) e
    (λ same pair.
    let k : r.0.tag ≡ tag = eqb-true r.0.tag tag same in
    let c : r.0.content ≡ content = ap (λ (q : List ℕ × List ℕ). q.0) pair in
    let x : r.1 ≡ rest = ap (λ (q : List ℕ × List ℕ). q.1) pair in
    spelled octets r.0 r.1 is ∙ ap (λ (t : ℕ). element t r.0.content ++ r.1) k ∙ ap (λ (y : List ℕ). element tag y ++ r.1) c ∙ ap (λ (y : List ℕ). element tag content ++ y) x)

content_is : (tag : ℕ) (octets content rest : List ℕ) → content_at tag octets ≡ Some (content, rest) → octets ≡ element tag content ++ rest
unfolding content_at
content_is tag octets content rest e = content_by tag octets content rest (element_at octets) refl e

nothing : (rest : List ℕ) → (length rest == 0) ≡ true → rest ≡ []
nothing [] e = refl
nothing (x ∷ xs) e = absurd (omega (arith, eqb-true (length (x ∷ xs)) 0 e))

only_is : (tag : ℕ) (octets content : List ℕ) → only_at tag octets ≡ Some content → octets ≡ element tag content
unfolding only_at
only_is tag octets content e =
    read (octets ≡ element tag content) (content_at tag octets) _ content e
    (λ r is rest. passed (octets ≡ element tag content) (length r.1 == 0) r.0 content rest
    (λ empty same. content_is tag octets r.0 r.1 is ∙ ap (λ (x : List ℕ). element tag r.0 ++ x) (nothing r.1 empty) ∙ append-nil (element tag r.0) ∙ ap (element tag) same))

-- a name of one common name is spelled by its text
name_spelled : (name text : List ℕ) → common_name name ≡ Some text → name ≡ names.common_name text
unfolding common_name
name_spelled name text e =
    read (name ≡ names.common_name text) (only_at 0x30 name) _ text e (λ sets a e1.
    read (name ≡ names.common_name text) (only_at 0x31 sets) _ text e1 (λ set b e2.
    read (name ≡ names.common_name text) (only_at 0x30 set) _ text e2 (λ attribute c e3.
    read (name ≡ names.common_name text) (content_at 6 attribute) _ text e3 (λ oid d e4.
    read (name ≡ names.common_name text) (only_at 12 oid.1) _ text e4 (λ found f e5.
    passed (name ≡ names.common_name text) (bytes_eq oid.0 common_name_oid && is_name_text found) found text e5 (λ tests same.
    let o : oid.0 ≡ common_name_oid = same_octets oid.0 common_name_oid (and_parts (bytes_eq oid.0 common_name_oid) (is_name_text found) tests).0 in
    let t : oid.1 ≡ element 12 text = only_is 12 oid.1 found f ∙ ap (element 12) same in
    let i : attribute ≡ element 6 common_name_oid ++ element 12 text = content_is 6 attribute oid.0 oid.1 d ∙ ap (λ (x : List ℕ). element 6 x ++ oid.1) o ∙ ap (λ (x : List ℕ). element 6 common_name_oid ++ x) t in
    only_is 0x30 name sets a ∙ ap (element 0x30) (only_is 0x31 sets set b ∙ ap (element 0x31) (only_is 0x30 set attribute c ∙ ap (element 0x30) i))))))))

name_by : (name : List ℕ) (found : Option (List ℕ)) → common_name name ≡ found → IsTrue (is_some found) → names.common_name (unwrap_or found []) ≡ name
name_by name (Some text) e t = sym (name_spelled name text e)
name_by name None e t = absurd (let h : false ≡ true = t in cc)

-- the name of a founded service is that of its look
pub name_is : (look : Look) (h : History) (ask : Ask) (now : ℕ) → IsFounded h → look ≡ look_of h ask now → name_for look ≡ name_of h
unfolding is_ca_name
name_is look h ask now founded e =
    let s : settings_of h ≡ founded.0 = ap (λ (o : Option Settings). unwrap_or o no_settings) founded.1 in
    ap name_for e ∙ ap (λ (x : Settings). names.common_name (unwrap_or (common_name x.name) [])) s ∙ name_by founded.0.name (common_name founded.0.name) refl founded.2 ∙ ap (λ (x : Settings). x.name) (sym s)
