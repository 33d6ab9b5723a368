-- What the readers of elements return, from what reading a list gives.
use Rattle.std.proofs.Common.{◌≡◌, ◌≢◌, ℕ, ◌++◌, false, List, [], ◌∷◌, Result, Ok, Err, IfOk, IsTrue, ◌↔◌, append-nil, refl, sym, ap, subst, ◌∙◌, arith, rules}
use Rattle.std.proofs.Common.{Bor}
use Rattle.std.proofs.lemmas.Bool.Decides.{nat_tests}
use Rattle.der_base.specs.Element.{element, IsElement, GoesOn}
use Rattle.der_base.specs.Reading.{Part, part, part_of, is_short, is_bad_tag, is_bad_length, element_at, sole_of, whole_at, Reads}
use Rattle.der_base.specs.declared.element.Element.{Element}
use Rattle.der_base.specs.declared.fault.DerFault.{DerFault}
use Rattle.der_base.specs.declared.fault.DerFault.TheVariants.{Short, BadTag, BadLength, Trailing}
use Rattle.der_base.proofs.ElementLemmas.{element_takes, element_reads, element_tells}

pub chain : {A B C : Type 0} → A ↔ B → B ↔ C → A ↔ C
chain f g = (λ a. g.0 (f.0 a), λ c. f.1 (g.1 c))

-- what a reader returns
abbrev Return : Type 0
Return = Result (Element × Bor (List ℕ)) DerFault

abbrev view : Element × Bor (List ℕ) → Part × List ℕ
view r = (part_of r.0, r.1.now)

pub reader_found : (bytes : List ℕ) (r : Return) → Reads view r (element_at bytes) → IfOk r (λ r. IsElement r.0.whole.now r.0.tag r.0.content.now × (bytes ≡ r.0.whole.now ++ r.1.now))
reader_found bytes (Ok r) e = let t = element_takes bytes (part_of r.0) r.1.now e in (t.element_is, t.parts)
reader_found bytes (Err f) e = search rules

pub reader_only : (bytes : List ℕ) (r : Return) → Reads view r (element_at bytes) → (octets content rest : List ℕ) (tag : ℕ) → IsElement octets tag content → bytes ≡ octets ++ rest → Reads view r (Ok (part tag content, rest))
reader_only bytes (Ok r) e octets content rest tag is parts = sym (element_reads bytes octets content rest tag is parts) ∙ e
reader_only bytes (Err f) e octets content rest tag is parts = sym (element_reads bytes octets content rest tag is parts) ∙ e

pub reader_fault : (bytes : List ℕ) (r : Return) (f : DerFault) → Reads view r (element_at bytes) → (r ≡ Err f) ↔ (element_at bytes ≡ Err f)
reader_fault bytes (Ok r) f e = (λ h. cc, λ h. cc)
reader_fault bytes (Err g) f e = (λ h. cc, λ h. cc)

pub reader_never : (bytes : List ℕ) (r : Return) → Reads view r (element_at bytes) → r ≢ Err Trailing
reader_never bytes r e h = (element_tells bytes).trailing ((reader_fault bytes r Trailing e).0 h)

-- the same of the one element that the octets are
pub whole_fault : (bytes : List ℕ) (r : Result Element DerFault) (f : DerFault) → Reads part_of r (whole_at bytes) → (r ≡ Err f) ↔ (whole_at bytes ≡ Err f)
whole_fault bytes (Ok r) f e = (λ h. cc, λ h. cc)
whole_fault bytes (Err g) f e = (λ h. cc, λ h. cc)

sole_over : (q : Part) (next : ℕ) (rest : List ℕ) → sole_of (Ok (q, next ∷ rest)) ≡ Err Trailing
sole_over q next rest = grind (arith, nat_tests)

sole_found : (r : Result (Part × List ℕ) DerFault) (p : Part) → sole_of r ≡ Ok p → r ≡ Ok (p, [])
sole_found (Ok (q, [])) p e = let same : q ≡ p = cc in rw same refl
sole_found (Ok (q, next ∷ rest)) p e = let over = sole_over q next rest in cc
sole_found (Err f) p e = cc

sole_fault : (r : Result (Part × List ℕ) DerFault) (f : DerFault) → f ≢ Trailing → (sole_of r ≡ Err f) ↔ (r ≡ Err f)
sole_fault (Ok (q, [])) f t = (λ h. cc, λ h. cc)
sole_fault (Ok (q, next ∷ rest)) f t = let over = sole_over q next rest in (λ h. absurd (t (cc)), λ h. cc)
sole_fault (Err g) f t = (λ h. cc, λ h. cc)

pub whole_found : (bytes : List ℕ) (r : Result Element DerFault) → Reads part_of r (whole_at bytes) → IfOk r (λ e. IsElement bytes e.tag e.content.now × (e.whole.now ≡ bytes))
unfolding whole_at
whole_found bytes (Ok r) e =
    let t = element_takes bytes (part_of r) [] (sole_found (element_at bytes) (part_of r) e) in
    let all : bytes ≡ r.whole.now = t.parts ∙ append-nil r.whole.now in
    (subst (λ (l : List ℕ). IsElement l r.tag r.content.now) (sym all) t.element_is, sym all)
whole_found bytes (Err f) e = search rules

pub whole_only : (bytes : List ℕ) (r : Result Element DerFault) → Reads part_of r (whole_at bytes) → (tag : ℕ) (content : List ℕ) → IsElement bytes tag content → Reads part_of r (Ok (part tag content))
unfolding whole_at
whole_only bytes (Ok r) e tag content is = sym (ap sole_of (element_reads bytes bytes content [] tag is (sym (append-nil bytes)))) ∙ e
whole_only bytes (Err f) e tag content is = sym (ap sole_of (element_reads bytes bytes content [] tag is (sym (append-nil bytes)))) ∙ e

pub short_whole : (bytes : List ℕ) → (whole_at bytes ≡ Err Short) ↔ IsTrue (is_short bytes)
unfolding whole_at
short_whole bytes = chain (sole_fault (element_at bytes) Short (λ h. cc)) (element_tells bytes).short

pub bad_tag_whole : (bytes : List ℕ) → (whole_at bytes ≡ Err BadTag) ↔ ((is_short bytes ≡ false) × IsTrue (is_bad_tag bytes))
unfolding whole_at
bad_tag_whole bytes = chain (sole_fault (element_at bytes) BadTag (λ h. cc)) (element_tells bytes).bad_tag

pub bad_length_whole : (bytes : List ℕ) → (whole_at bytes ≡ Err BadLength) ↔ ((is_short bytes ≡ false) × (is_bad_tag bytes ≡ false) × IsTrue (is_bad_length bytes))
unfolding whole_at
bad_length_whole bytes = chain (sole_fault (element_at bytes) BadLength (λ h. cc)) (element_tells bytes).bad_length

abbrev ok_part : Part → Result Part DerFault
ok_part q = Ok q

abbrev err_part : DerFault → Result Part DerFault
err_part f = Err f

not_ok : (q : Part) → ok_part q ≡ err_part Trailing → ⊥
not_ok q h = cc

not_short : err_part Short ≡ err_part Trailing → ⊥
not_short h = cc

not_tag : err_part BadTag ≡ err_part Trailing → ⊥
not_tag h = cc

not_length : err_part BadLength ≡ err_part Trailing → ⊥
not_length h = cc

over_goes : (bytes : List ℕ) (r : Result (Part × List ℕ) DerFault) → element_at bytes ≡ r → sole_of r ≡ Err Trailing → GoesOn bytes
over_goes bytes (Ok (q, [])) e h = absurd (not_ok q h)
over_goes bytes (Ok (q, next ∷ rest)) e h =
    let t = element_takes bytes q (next ∷ rest) e in
    record {
      tag = q.tag;
      content = q.content;
      next = next;
      rest = rest;
      is_element = record { low_tag = t.element_is.low_tag; counted = t.element_is.counted; spelled = refl };
      parts = t.parts ∙ ap (λ (l : List ℕ). l ++ next ∷ rest) t.element_is.spelled;
    }
over_goes bytes (Err Short) e h = absurd (not_short h)
over_goes bytes (Err BadTag) e h = absurd (not_tag h)
over_goes bytes (Err BadLength) e h = absurd (not_length h)
over_goes bytes (Err Trailing) e h = absurd ((element_tells bytes).trailing e)

goes_over : (bytes : List ℕ) → GoesOn bytes → sole_of (element_at bytes) ≡ Err Trailing
goes_over bytes g = ap sole_of (element_reads bytes (element g.tag g.content) g.content (g.next ∷ g.rest) g.tag g.is_element g.parts) ∙ sole_over (part g.tag g.content) g.next g.rest

pub goes_on : (bytes : List ℕ) → (whole_at bytes ≡ Err Trailing) ↔ GoesOn bytes
unfolding whole_at
goes_on bytes = (over_goes bytes (element_at bytes) refl, goes_over bytes)
