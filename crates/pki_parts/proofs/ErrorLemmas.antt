-- Error messages are read exactly where they are spelled.
use Rattle.std.proofs.Common.{◌≡◌, ℕ, ◌^◌, ◌<◌, ◌++◌, eqb, List, [], length, Some, Result, Ok, Err, IfOk, append-nil, refl, sym, ap, subst, ◌∙◌, arith}
use Rattle.der_base.specs.Element.{element, IsElement}
use Rattle.der_base.specs.Values.{is_integer}
use Rattle.asn_fields.specs.Fields.{optional_with}
use Rattle.asn_fields.specs.Forms.{IsRead, IsField, optional_spelling}
use Rattle.asn_fields.proofs.FieldLemmas.{bound, passed, optional_field}
use Rattle.asn_types.specs.Template.{Passes, same, tested_at}
use Rattle.asn_parts.specs.Parts.{required_with}
use Rattle.asn_parts.proofs.PartLemmas.{tested_is_read}
use Rattle.pki_parts.specs.Texts.{IsTexts, are_texts}
use Rattle.pki_parts.specs.Status.{StatusForm, FitsStatus, status_content, status_at}
use Rattle.pki_parts.specs.Error.{ErrorForm, FitsError, error_content, error_at, written_error}
use Rattle.pki_parts.proofs.FieldLemmas.{nothing_over, field_not, field_last, other_tag}
use Rattle.pki_parts.proofs.StatusLemmas.{status_field, text_field}
use Rattle.pki_parts.proofs.TextLemmas.{texts_are_read}

code_field : IsField (optional_with (tested_at is_integer) 0x02) 0x02 same (Passes is_integer)
code_field = optional_field (tested_at is_integer) 0x02 same (Passes is_integer) (omega arith) (tested_is_read is_integer)

error_made : (bytes : List ℕ) (m : ErrorForm) (r0 r1 r2 : List ℕ) → bytes ≡ element 0x30 (status_content m.status) ++ r0 → r0 ≡ optional_spelling 0x02 same m.code ++ r1 → r1 ≡ optional_spelling 0x30 same m.text ++ r2 → r2 ≡ [] → bytes ≡ error_content m
error_made bytes m r0 r1 r2 e0 e1 e2 end =
    e0 ∙ ap (λ (l : List ℕ). element 0x30 (status_content m.status) ++ l) (e1 ∙ ap (λ (l : List ℕ). optional_spelling 0x02 same m.code ++ l)
    (e2 ∙ ap (λ (l : List ℕ). optional_spelling 0x30 same m.text ++ l) end ∙ append-nil (optional_spelling 0x30 same m.text)))

error_takes : (bytes : List ℕ) (m : ErrorForm) → error_at bytes ≡ Some m → FitsError m × (bytes ≡ error_content m)
unfolding error_at
error_takes bytes m e =
    bound (FitsError m × (bytes ≡ error_content m)) (required_with status_at 0x30 bytes) _ m e (λ s r0 e0.
    bound (FitsError m × (bytes ≡ error_content m)) (optional_with (tested_at is_integer) 0x02 s.1) _ m e0 (λ c r1 e1.
    bound (FitsError m × (bytes ≡ error_content m)) (optional_with (tested_at are_texts) 0x30 c.1) _ m e1 (λ t r2 e2.
    passed (FitsError m × (bytes ≡ error_content m)) (eqb (length t.1) 0) (record { status = s.0; code = c.0; text = t.0 }) m e2 (λ none is.
    let f0 = status_field.takes bytes s.0 s.1 r0 in
    let f1 = code_field.takes s.1 c.0 c.1 r1 in
    let f2 = text_field.takes c.1 t.0 t.1 r2 in
    subst (λ (x : ErrorForm). FitsError x × (bytes ≡ error_content x)) is (
      record { status = f0.0; code = f1.0; text = f2.0 },
      error_made bytes (record { status = s.0; code = c.0; text = t.0 }) s.1 c.1 t.1 f0.1 f1.1 f2.1 (nothing_over t.1 none),
    )))))

error_again : (m : ErrorForm) → FitsError m → error_at (error_content m) ≡ Some m
unfolding error_at
error_again m fits =
    rw (
      status_field.again m.status (optional_spelling 0x02 same m.code ++ optional_spelling 0x30 same m.text) fits.status,
      field_not (tested_at is_integer) 0x02 same (Passes is_integer) (omega arith) (tested_is_read is_integer) m.code (optional_spelling 0x30 same m.text) fits.code (other_tag 0x02 0x30 same m.text refl),
      field_last (tested_at are_texts) 0x30 same IsTexts (omega arith) texts_are_read m.text fits.text,
    ) refl

-- The law of error messages.
pub error_is_read : IsRead error_at error_content FitsError
error_is_read = record { takes = error_takes; again = error_again }

-- What is written is an error message.
error_written : (octets : List ℕ) (s : StatusForm) → FitsStatus s → IsElement octets 0x30 (status_content s) → length octets < 2 ^ 32 → IsElement (element 0x30 octets) 0x30 (error_content (written_error s)) × FitsError (written_error s)
error_written octets s fits is counted =
    let spelled : octets ≡ error_content (written_error s) = is.spelled ∙ sym (append-nil (element 0x30 (status_content s))) in (
      record { low_tag = omega arith; counted = subst (λ (l : List ℕ). length l < 2 ^ 32) spelled counted; spelled = ap (element 0x30) spelled },
      record { status = (fits, is.counted); code = tt; text = tt },
    )

pub error_result : {E : Type 0} (r : Result (List ℕ) E) (status : List ℕ) → length status < 2 ^ 32 → IfOk r (λ octets. octets ≡ element 0x30 status) → (s : StatusForm) → FitsStatus s → IsElement status 0x30 (status_content s) → IfOk r (λ octets. IsElement octets 0x30 (error_content (written_error s)) × FitsError (written_error s))
error_result (Ok octets) status counted e s fits is = subst (λ (l : List ℕ). IsElement l 0x30 (error_content (written_error s)) × FitsError (written_error s)) (sym e) (error_written status s fits is counted)
error_result (Err f) status counted e s fits is = tt
