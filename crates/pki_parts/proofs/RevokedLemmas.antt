-- Responses to requests to revoke are read exactly where they are spelled.
use Rattle.std.proofs.Common.{◌≡◌, ℕ, ◌+◌, ◌≤◌, ◌^◌, ◌<◌, ◌++◌, eqb, List, [], ◌∷◌, length, Option, Some, None, Result, Ok, Err, IfOk, append-nil, eqb-true, eq-eqb, refl, sym, ap, subst, ◌∙◌, arith}
use Rattle.der_base.specs.Element.{element, IsElement}
use Rattle.der_base.specs.Reading.{Part, part, whole_at}
use Rattle.asn_fields.specs.Fields.{◌>>=◌, Gives, ok_of, field_at, optional_with}
use Rattle.asn_fields.specs.Forms.{IsRead, IsField, optional_spelling, FitsOptional}
use Rattle.asn_fields.specs.Rows.{RowForm, IsRowContent, row_of, row_at}
use Rattle.asn_fields.specs.declared.fault.BadForm.{BadForm}
use Rattle.asn_fields.proofs.FieldLemmas.{bound, passed, some_same, field_takes, field_again, optional_field}
use Rattle.asn_fields.proofs.RowLemmas.{row_takes, row_again}
use Rattle.asn_types.specs.Algorithm.{IsAny}
use Rattle.asn_types.specs.Template.{same}
use Rattle.asn_types.proofs.LengthLemmas.{length_element_le}
use Rattle.asn_types.proofs.ValueLemmas.{whole_takes, whole_again}
use Rattle.pki_parts.specs.Lists.{IsOne}
use Rattle.pki_parts.specs.Status.{StatusForm, FitsStatus, status_content, status_at}
use Rattle.pki_parts.specs.Revoked.{IsRevRep, rev_rep_of, one_at, statuses_at, rev_rep_inside_at, rev_rep_at, rev_rep_octets}
use Rattle.pki_parts.specs.declared.revoked.RevRep.{RevRep}
use Rattle.pki_parts.proofs.FieldLemmas.{nothing_over, field_not, field_last, other_tag}
use Rattle.pki_parts.proofs.ListLemmas.{tag_test, one_written}
use Rattle.pki_parts.proofs.StatusLemmas.{status_is_read}

-- one element of any form
one_takes : (bytes x : List ℕ) → one_at bytes ≡ Some x → IsAny x × (bytes ≡ same x)
unfolding one_at
one_takes bytes x e =
    bound (IsAny x × (bytes ≡ same x)) (ok_of (whole_at bytes)) (λ (p : Part). Some p.whole) x e (λ p got last.
    let w = whole_takes bytes p got in
    let all : bytes ≡ x = sym w.1 ∙ some_same p.whole x last in
    (record { tag = p.tag; content = p.content; alone = subst (λ (l : List ℕ). IsElement l p.tag p.content) all w.0 }, all))

one_again : (x : List ℕ) → IsAny x → one_at (same x) ≡ Some x
unfolding one_at
one_again x is = rw (whole_again x is.tag is.content is.alone) (ap (λ (l : List ℕ). Some l) (sym is.alone.spelled))

one_is_read : IsRead one_at same IsAny
one_is_read = record { takes = one_takes; again = one_again }

certs_field : IsField (optional_with one_at 0xA0) 0xA0 same IsAny
certs_field = optional_field one_at 0xA0 same IsAny (omega arith) one_is_read

crls_field : IsField (optional_with one_at 0xA1) 0xA1 same IsAny
crls_field = optional_field one_at 0xA1 same IsAny (omega arith) one_is_read

-- the row of statuses at the front
record IsStatuses (bytes : List ℕ) (row : RowForm StatusForm) (rest : List ℕ) : Type 0 where
  pub content : List ℕ
  pub counted : length content < 2 ^ 32
  pub each : IsRowContent 0x30 status_content FitsStatus content row
  pub parts : bytes ≡ element 0x30 content ++ rest

statuses_take : (bytes : List ℕ) (row : RowForm StatusForm) (rest : List ℕ) → statuses_at bytes ≡ Some (row, rest) → IsStatuses bytes row rest
statuses_take bytes row rest e =
    bound (IsStatuses bytes row rest) (field_at 0x30 bytes) (λ (f : Part × List ℕ). row_at status_at 0x30 f.0.content >>= λ x. Some (x, f.1)) (row, rest) e (λ f read e1.
    bound (IsStatuses bytes row rest) (row_at status_at 0x30 f.0.content) (λ (x : RowForm StatusForm). Some (x, f.1)) (row, rest) e1 (λ x got last.
    let t = field_takes 0x30 bytes f.0 f.1 read in
    subst (λ (z : RowForm StatusForm × List ℕ). IsStatuses bytes z.0 z.1) (some_same (x, f.1) (row, rest) last) (record {
      content = f.0.content;
      counted = t.element_is.counted;
      each = row_takes status_is_read 0x30 f.0.content x got;
      parts = t.parts ∙ ap (λ (l : List ℕ). l ++ f.1) t.element_is.spelled;
    })))

statuses_again : (content : List ℕ) (row : RowForm StatusForm) (rest : List ℕ) → length content < 2 ^ 32 → IsRowContent 0x30 status_content FitsStatus content row → statuses_at (element 0x30 content ++ rest) ≡ Some (row, rest)
statuses_again content row rest counted each =
    ap (λ (q : Option (Part × List ℕ)). q >>= λ f. (row_at status_at 0x30 f.0.content >>= λ x. Some (x, f.1))) (field_again 0x30 content rest (omega arith) counted)
    ∙ ap (λ (v : Option (RowForm StatusForm)). v >>= λ x. Some (x, rest)) (row_again status_is_read 0x30 (omega arith) content row each)

-- what stands in the SEQUENCE
record IsInside (content : List ℕ) (row : RowForm StatusForm) : Type 0 where
  pub statuses : List ℕ
  pub certs : Option (List ℕ)
  pub crls : Option (List ℕ)
  pub spelled : content ≡ element 0x30 statuses ++ (optional_spelling 0xA0 same certs ++ optional_spelling 0xA1 same crls)
  pub counted : length statuses < 2 ^ 32
  pub each : IsRowContent 0x30 status_content FitsStatus statuses row
  pub certs_fit : FitsOptional same IsAny certs
  pub crls_fit : FitsOptional same IsAny crls

inside_made : (content statuses : List ℕ) (certs crls : Option (List ℕ)) (r0 r1 r2 : List ℕ) → content ≡ element 0x30 statuses ++ r0 → r0 ≡ optional_spelling 0xA0 same certs ++ r1 → r1 ≡ optional_spelling 0xA1 same crls ++ r2 → r2 ≡ [] → content ≡ element 0x30 statuses ++ (optional_spelling 0xA0 same certs ++ optional_spelling 0xA1 same crls)
inside_made content statuses certs crls r0 r1 r2 e0 e1 e2 end =
    e0 ∙ ap (λ (l : List ℕ). element 0x30 statuses ++ l) (e1 ∙ ap (λ (l : List ℕ). optional_spelling 0xA0 same certs ++ l)
    (e2 ∙ ap (λ (l : List ℕ). optional_spelling 0xA1 same crls ++ l) end ∙ append-nil (optional_spelling 0xA1 same crls)))

inside_takes : (content : List ℕ) (row : RowForm StatusForm) → rev_rep_inside_at content ≡ Some row → IsInside content row
unfolding rev_rep_inside_at
inside_takes content row e =
    bound (IsInside content row) (statuses_at content) _ row e (λ v0 r0 e0.
    bound (IsInside content row) (optional_with one_at 0xA0 v0.1) _ row e0 (λ v1 r1 e1.
    bound (IsInside content row) (optional_with one_at 0xA1 v1.1) _ row e1 (λ v2 r2 e2.
    passed (IsInside content row) (eqb (length v2.1) 0) v0.0 row e2 (λ none is.
    let s = statuses_take content v0.0 v0.1 r0 in
    let f1 = certs_field.takes v0.1 v1.0 v1.1 r1 in
    let f2 = crls_field.takes v1.1 v2.0 v2.1 r2 in
    subst (IsInside content) is (record {
      statuses = s.content;
      certs = v1.0;
      crls = v2.0;
      spelled = inside_made content s.content v1.0 v2.0 v0.1 v1.1 v2.1 s.parts f1.1 f2.1 (nothing_over v2.1 none);
      counted = s.counted;
      each = s.each;
      certs_fit = f1.0;
      crls_fit = f2.0;
    })))))

inside_spelled : (statuses : List ℕ) (certs crls : Option (List ℕ)) (row : RowForm StatusForm) → length statuses < 2 ^ 32 → IsRowContent 0x30 status_content FitsStatus statuses row → FitsOptional same IsAny certs → FitsOptional same IsAny crls → rev_rep_inside_at (element 0x30 statuses ++ (optional_spelling 0xA0 same certs ++ optional_spelling 0xA1 same crls)) ≡ Some row
unfolding rev_rep_inside_at
inside_spelled statuses certs crls row counted each certs_fit crls_fit =
    rw (
      statuses_again statuses row (optional_spelling 0xA0 same certs ++ optional_spelling 0xA1 same crls) counted each,
      field_not one_at 0xA0 same IsAny (omega arith) one_is_read certs (optional_spelling 0xA1 same crls) certs_fit (other_tag 0xA0 0xA1 same crls refl),
      field_last one_at 0xA1 same IsAny (omega arith) one_is_read crls crls_fit,
    ) refl

pub rev_rep_takes : (p : Part) (row : RowForm StatusForm) → rev_rep_at p ≡ Some row → IsRevRep p row
unfolding rev_rep_at
rev_rep_takes p row e =
    let t = tag_test (eqb p.tag 0x30) (rev_rep_inside_at p.content) row e in
    let s = inside_takes p.content row t.1 in
    record {
      statuses = s.statuses;
      certs = s.certs;
      crls = s.crls;
      is_sequence = eqb-true p.tag 0x30 t.0;
      spelled = s.spelled;
      counted = s.counted;
      each = s.each;
      certs_fit = s.certs_fit;
      crls_fit = s.crls_fit;
    }

pub rev_rep_again : (p : Part) (row : RowForm StatusForm) → IsRevRep p row → rev_rep_at p ≡ Some row
unfolding rev_rep_at
rev_rep_again p row is =
    rw (eq-eqb p.tag 0x30 is.is_sequence) (ap rev_rep_inside_at is.spelled ∙ inside_spelled is.statuses is.certs is.crls row is.counted is.each is.certs_fit is.crls_fit)

pub rev_rep_found : (p : Part) (r : Result RevRep BadForm) → Gives rev_rep_of r (rev_rep_at p) → IfOk r (λ x. IsRevRep p (rev_rep_of x))
rev_rep_found p (Ok x) e = rev_rep_takes p (rev_rep_of x) e
rev_rep_found p (Err f) e = tt

pub rev_rep_only : (p : Part) (r : Result RevRep BadForm) → Gives rev_rep_of r (rev_rep_at p) → (row : RowForm StatusForm) → IsRevRep p row → Gives rev_rep_of r (Some row)
rev_rep_only p (Ok x) e row is = sym (rev_rep_again p row is) ∙ e
rev_rep_only p (Err f) e row is = sym (rev_rep_again p row is) ∙ e

-- What was written is read again.
one_status : (status : List ℕ) (s : StatusForm) → length status < 2 ^ 32 → FitsStatus s → IsElement status 0x30 (status_content s) → IsRevRep (part 0x30 (element 0x30 status)) (row_of (s ∷ []))
one_status status s counted fits is = record {
  statuses = status;
  certs = None;
  crls = None;
  is_sequence = refl;
  spelled = sym (append-nil (element 0x30 status));
  counted = counted;
  each = record { entries = s ∷ []; fit = (fits, is.counted, tt); spelled = is.spelled ∙ sym (append-nil (element 0x30 (status_content s))); shown = refl };
  certs_fit = tt;
  crls_fit = tt;
}

pub rev_rep_result : {E : Type 0} (r : Result (List ℕ) E) (status : List ℕ) → length status + 64 < 2 ^ 32 → IfOk r (λ octets. octets ≡ rev_rep_octets status) → (s : StatusForm) → FitsStatus s → IsElement status 0x30 (status_content s) → IfOk r (IsOne (λ p. IsRevRep p (row_of (s ∷ []))))
rev_rep_result r status counted e s fits is =
    one_written (λ p. IsRevRep p (row_of (s ∷ []))) r (element 0x30 status) (omega (arith, counted, length_element_le 0x30 status)) (one_status status s (omega (arith, counted)) fits is) e

-- how long it is at most
pub rev_rep_size : (status : List ℕ) → length (rev_rep_octets status) ≤ length status + 64
rev_rep_size status = omega (arith, length_element_le 0x30 (element 0x30 status), length_element_le 0x30 status)
