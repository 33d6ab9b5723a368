-- Polls and their answers are read exactly where they are spelled.
use Rattle.std.proofs.Common.{◌≡◌, ℕ, ℤ, ◌≤◌, ◌^◌, ◌<◌, ◌++◌, eqb, List, [], ◌∷◌, length, Some, None, Result, Ok, Err, IfOk, append-nil, refl, sym, ap, subst, ◌∙◌, arith}
use Rattle.std.proofs.lemmas.List.{length-append}
use Rattle.der_base.specs.Element.{element}
use Rattle.der_base.specs.Reading.{Part, part}
use Rattle.der_base.specs.Values.{is_integer}
use Rattle.asn_fields.specs.Fields.{Gives, optional_with}
use Rattle.asn_fields.specs.Forms.{IsRead, IsFront, IsField, optional_spelling}
use Rattle.asn_fields.specs.Rows.{RowForm, row_of}
use Rattle.asn_fields.specs.declared.fault.BadForm.{BadForm}
use Rattle.asn_fields.proofs.FieldLemmas.{bound, passed, some_same, optional_field}
use Rattle.asn_types.specs.Template.{Passes, same, tested_at}
use Rattle.asn_types.proofs.LengthLemmas.{length_element_le}
use Rattle.asn_parts.specs.Number.{number_octets}
use Rattle.asn_parts.specs.Parts.{tagged, FitsTagged, required_with}
use Rattle.asn_parts.proofs.NumberLemmas.{number_form, number_size}
use Rattle.asn_parts.proofs.PartLemmas.{tested_is_read, required_front}
use Rattle.pki_parts.specs.Identifier.{id_octets}
use Rattle.pki_parts.specs.Lists.{IsOne, list_at}
use Rattle.pki_parts.specs.Polling.{IsPollReq, poll_req_octets, AnswerForm, answer_content, FitsAnswer, PollForm, shown_row, IsPollRep, poll_rep_of, answer_at, poll_rep_at, poll_rep_octets, written_poll}
use Rattle.pki_parts.specs.Texts.{IsTexts, are_texts}
use Rattle.pki_parts.specs.declared.polling.PollRep.{PollRep}
use Rattle.pki_parts.proofs.FieldLemmas.{nothing_over, field_last}
use Rattle.pki_parts.proofs.ListLemmas.{list_takes, list_again, one_entry, one_written, id_fits}
use Rattle.pki_parts.proofs.TextLemmas.{texts_are_read}

-- the fields of an entry
integer_front : IsFront (required_with (tested_at is_integer) 0x02) (tagged 0x02 same) (FitsTagged same (Passes is_integer))
integer_front = required_front (tested_at is_integer) 0x02 same (Passes is_integer) (omega arith) (tested_is_read is_integer)

text_field : IsField (optional_with (tested_at are_texts) 0x30) 0x30 same IsTexts
text_field = optional_field (tested_at are_texts) 0x30 same IsTexts (omega arith) texts_are_read

answer_made : (content : List ℕ) (a : AnswerForm) (r0 r1 r2 : List ℕ) → content ≡ element 0x02 a.id ++ r0 → r0 ≡ element 0x02 a.after ++ r1 → r1 ≡ optional_spelling 0x30 same a.text ++ r2 → r2 ≡ [] → content ≡ answer_content a
answer_made content a r0 r1 r2 e0 e1 e2 end =
    e0 ∙ ap (λ (l : List ℕ). element 0x02 a.id ++ l) (e1 ∙ ap (λ (l : List ℕ). element 0x02 a.after ++ l)
    (e2 ∙ ap (λ (l : List ℕ). optional_spelling 0x30 same a.text ++ l) end ∙ append-nil (optional_spelling 0x30 same a.text)))

answer_takes : (content : List ℕ) (a : AnswerForm) → answer_at content ≡ Some a → FitsAnswer a × (content ≡ answer_content a)
unfolding answer_at
answer_takes content a e =
    bound (FitsAnswer a × (content ≡ answer_content a)) (required_with (tested_at is_integer) 0x02 content) _ a e (λ i r0 e0.
    bound (FitsAnswer a × (content ≡ answer_content a)) (required_with (tested_at is_integer) 0x02 i.1) _ a e0 (λ n r1 e1.
    bound (FitsAnswer a × (content ≡ answer_content a)) (optional_with (tested_at are_texts) 0x30 n.1) _ a e1 (λ t r2 e2.
    passed (FitsAnswer a × (content ≡ answer_content a)) (eqb (length t.1) 0) (record { id = i.0; after = n.0; text = t.0 }) a e2 (λ none is.
    let f0 = integer_front.takes content i.0 i.1 r0 in
    let f1 = integer_front.takes i.1 n.0 n.1 r1 in
    let f2 = text_field.takes n.1 t.0 t.1 r2 in
    subst (λ (x : AnswerForm). FitsAnswer x × (content ≡ answer_content x)) is (
      record { id = f0.0; after = f1.0; text = f2.0 },
      answer_made content (record { id = i.0; after = n.0; text = t.0 }) i.1 n.1 t.1 f0.1 f1.1 f2.1 (nothing_over t.1 none),
    )))))

answer_again : (a : AnswerForm) → FitsAnswer a → answer_at (answer_content a) ≡ Some a
unfolding answer_at
answer_again a fits =
    rw (
      integer_front.again a.id (element 0x02 a.after ++ optional_spelling 0x30 same a.text) fits.id,
      integer_front.again a.after (optional_spelling 0x30 same a.text) fits.after,
      field_last (tested_at are_texts) 0x30 same IsTexts (omega arith) texts_are_read a.text fits.text,
    ) refl

-- The law of an entry of an answer.
answer_is_read : IsRead answer_at answer_content FitsAnswer
answer_is_read = record { takes = answer_takes; again = answer_again }

pub poll_rep_takes : (p : Part) (row : RowForm PollForm) → poll_rep_at p ≡ Some row → IsPollRep p row
unfolding poll_rep_at
poll_rep_takes p row e =
    bound (IsPollRep p row) (list_at answer_at p) (λ (full : RowForm AnswerForm). Some (shown_row full)) row e (λ full read last.
    record { full = full; list = list_takes answer_is_read p full read; shown = sym (some_same (shown_row full) row last) })

pub poll_rep_again : (p : Part) (row : RowForm PollForm) → IsPollRep p row → poll_rep_at p ≡ Some row
unfolding poll_rep_at
poll_rep_again p row is = rw (list_again answer_is_read p is.full is.list) (ap (λ (x : RowForm PollForm). Some x) (sym is.shown))

pub poll_rep_found : (p : Part) (r : Result PollRep BadForm) → Gives poll_rep_of r (poll_rep_at p) → IfOk r (λ x. IsPollRep p (poll_rep_of x))
poll_rep_found p (Ok x) e = poll_rep_takes p (poll_rep_of x) e
poll_rep_found p (Err f) e = tt

pub poll_rep_only : (p : Part) (r : Result PollRep BadForm) → Gives poll_rep_of r (poll_rep_at p) → (row : RowForm PollForm) → IsPollRep p row → Gives poll_rep_of r (Some row)
poll_rep_only p (Ok x) e row is = sym (poll_rep_again p row is) ∙ e
poll_rep_only p (Err f) e row is = sym (poll_rep_again p row is) ∙ e

-- What was written is read again.
pub poll_req_result : {E : Type 0} (r : Result (List ℕ) E) (id : ℤ) → IfOk r (λ octets. octets ≡ poll_req_octets id) → IfOk r (IsOne (λ p. IsPollReq p (row_of (id_octets id ∷ []))))
poll_req_result r id e =
    let inner : length (element 0x02 (id_octets id)) ≤ 7 = length_element_le 0x02 (id_octets id) in
    one_written (λ p. IsPollReq p (row_of (id_octets id ∷ []))) r (element 0x30 (element 0x02 (id_octets id)))
    (omega (arith, length_element_le 0x30 (element 0x02 (id_octets id)), inner))
    (one_entry (tagged 0x02 same) (FitsTagged same (Passes is_integer)) (id_octets id) (id_fits id) (omega (arith, inner))) e

abbrev written_answer : ℤ → ℕ → AnswerForm
written_answer id after = record { id = id_octets id; after = number_octets after; text = None }

abbrev answer_octets : ℤ → ℕ → List ℕ
answer_octets id after = element 0x02 (id_octets id) ++ element 0x02 (number_octets after)

answer_spelled : (id : ℤ) (after : ℕ) → answer_octets id after ≡ answer_content (written_answer id after)
answer_spelled id after = ap (λ (l : List ℕ). element 0x02 (id_octets id) ++ l) (sym (append-nil (element 0x02 (number_octets after))))

answer_size : (id : ℤ) (after : ℕ) → length (answer_octets id after) ≤ 22
answer_size id after = omega (arith, length-append (element 0x02 (id_octets id)) (element 0x02 (number_octets after)), length_element_le 0x02 (id_octets id), length_element_le 0x02 (number_octets after), number_size after)

answer_fits : (id : ℤ) (after : ℕ) → after < 2 ^ 32 → FitsAnswer (written_answer id after)
answer_fits id after small = record {
  id = id_fits id;
  after = (number_form after (omega (arith, small)), omega (arith, number_size after));
  text = tt;
}

answer_list : (id : ℤ) (after : ℕ) → after < 2 ^ 32 → IsPollRep (part 0x30 (element 0x30 (answer_octets id after))) (row_of (written_poll id after ∷ []))
answer_list id after small =
    let a : AnswerForm = written_answer id after in
    let same_octets : answer_octets id after ≡ answer_content a = answer_spelled id after in
    let counted : length (answer_octets id after) < 2 ^ 32 = omega (arith, answer_size id after) in
    subst (λ (l : List ℕ). IsPollRep (part 0x30 (element 0x30 l)) (row_of (written_poll id after ∷ []))) (sym same_octets) (record {
      full = row_of (a ∷ []);
      list = one_entry answer_content FitsAnswer a (answer_fits id after small) (subst (λ (l : List ℕ). length l < 2 ^ 32) same_octets counted);
      shown = refl;
    })

pub poll_rep_result : {E : Type 0} (r : Result (List ℕ) E) (id : ℤ) (after : ℕ) → after < 2 ^ 32 → IfOk r (λ octets. octets ≡ poll_rep_octets id after) → IfOk r (IsOne (λ p. IsPollRep p (row_of (written_poll id after ∷ []))))
poll_rep_result r id after small e =
    one_written (λ p. IsPollRep p (row_of (written_poll id after ∷ []))) r (element 0x30 (answer_octets id after))
    (omega (arith, length_element_le 0x30 (answer_octets id after), answer_size id after)) (answer_list id after small) e

-- how long it is at most
pub poll_req_size : (id : ℤ) → length (poll_req_octets id) ≤ 64
poll_req_size id = omega (arith, length_element_le 0x30 (element 0x30 (element 0x02 (id_octets id))), length_element_le 0x30 (element 0x02 (id_octets id)), length_element_le 0x02 (id_octets id))

pub poll_rep_size : (id : ℤ) (after : ℕ) → length (poll_rep_octets id after) ≤ 64
poll_rep_size id after = omega (arith, length_element_le 0x30 (element 0x30 (answer_octets id after)), length_element_le 0x30 (answer_octets id after), answer_size id after)
