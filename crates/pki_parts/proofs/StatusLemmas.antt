-- The status of a request is read exactly where it is spelled.
use Rattle.std.proofs.Common.{◌≡◌, ℕ, ◌+◌, ◌^◌, ◌<◌, ◌≤◌, ◌++◌, eqb, IsTrue, List, [], ◌∷◌, length, Option, Some, None, Result, Ok, Err, IfOk, append-nil, refl, sym, ap, subst, ◌∙◌, arith}
use Rattle.std.specs.Prelude.{option_map, All}
use Rattle.std.specs.Str.{is_utf8}
use Rattle.std.proofs.lemmas.List.{length-append}
use Rattle.std.proofs.lemmas.List.Elements.{All-cons}
use Rattle.asn_types.proofs.LengthLemmas.{length_element_le}
use Rattle.der_base.specs.Element.{element, IsElement}
use Rattle.der_base.specs.Reading.{part}
use Rattle.der_base.specs.Values.{BitString, is_integer, is_bits, bits_of}
use Rattle.asn_fields.specs.Fields.{optional_with}
use Rattle.asn_fields.specs.Forms.{IsRead, IsFront, IsField, optional_spelling, FitsOptional}
use Rattle.asn_fields.proofs.FieldLemmas.{bound, passed, optional_field}
use Rattle.asn_types.specs.Template.{Passes, same, tested_at}
use Rattle.asn_parts.specs.Number.{number_octets}
use Rattle.asn_parts.specs.Parts.{tagged, FitsTagged, required_with}
use Rattle.asn_parts.proofs.NumberLemmas.{number_form, number_size}
use Rattle.asn_parts.proofs.PartLemmas.{tested_is_read, required_front}
use Rattle.pki_parts.specs.Texts.{IsText, IsTexts, are_texts}
use Rattle.pki_parts.specs.Status.{StatusForm, FitsStatus, IsBits, IsTextOrNone, status_content, bits_content, bits_inside_at, status_at, one_text, reason_bits, written_status, option_size}
use Rattle.cmp_values.specs.declared.fail_info.FailInfo.{FailInfo}
use Rattle.cmp_values.specs.declared.fail_info.FailInfo.TheVariants as reason
use Rattle.pki_parts.proofs.FieldLemmas.{nothing_over, field_not, field_last, other_tag, front_fits, back_fits, inside_fits}
use Rattle.pki_parts.proofs.TextLemmas.{texts_are_read}

-- a string of bits
bits_same : (bytes : List ℕ) → IsTrue (is_bits bytes) → bytes ≡ bits_content (bits_of bytes)
bits_same [] h = cc
bits_same (unused ∷ octets) h = refl

bits_take : (bytes : List ℕ) (b : BitString) → bits_inside_at bytes ≡ Some b → IsBits b × (bytes ≡ bits_content b)
unfolding bits_inside_at
bits_take bytes b e =
    passed (IsBits b × (bytes ≡ bits_content b)) (is_bits bytes) (bits_of bytes) b e (λ h is.
    let spelled : bytes ≡ bits_content b = bits_same bytes h ∙ ap bits_content is in
    (subst (λ (l : List ℕ). IsTrue (is_bits l)) spelled h, spelled))

bits_again : (b : BitString) → IsBits b → bits_inside_at (bits_content b) ≡ Some b
unfolding bits_inside_at
bits_again b h = rw h refl

pub bits_are_read : IsRead bits_inside_at bits_content IsBits
bits_are_read = record { takes = bits_take; again = bits_again }

-- the fields
status_front : IsFront (required_with (tested_at is_integer) 0x02) (tagged 0x02 same) (FitsTagged same (Passes is_integer))
status_front = required_front (tested_at is_integer) 0x02 same (Passes is_integer) (omega arith) (tested_is_read is_integer)

pub text_field : IsField (optional_with (tested_at are_texts) 0x30) 0x30 same IsTexts
text_field = optional_field (tested_at are_texts) 0x30 same IsTexts (omega arith) texts_are_read

fail_field : IsField (optional_with bits_inside_at 0x03) 0x03 bits_content IsBits
fail_field = optional_field bits_inside_at 0x03 bits_content IsBits (omega arith) bits_are_read

status_made : (bytes : List ℕ) (s : StatusForm) (r0 r1 r2 : List ℕ) → bytes ≡ element 0x02 s.status ++ r0 → r0 ≡ optional_spelling 0x30 same s.text ++ r1 → r1 ≡ optional_spelling 0x03 bits_content s.fail ++ r2 → r2 ≡ [] → bytes ≡ status_content s
status_made bytes s r0 r1 r2 e0 e1 e2 end =
    e0 ∙ ap (λ (l : List ℕ). element 0x02 s.status ++ l) (e1 ∙ ap (λ (l : List ℕ). optional_spelling 0x30 same s.text ++ l)
    (e2 ∙ ap (λ (l : List ℕ). optional_spelling 0x03 bits_content s.fail ++ l) end ∙ append-nil (optional_spelling 0x03 bits_content s.fail)))

status_takes : (bytes : List ℕ) (s : StatusForm) → status_at bytes ≡ Some s → FitsStatus s × (bytes ≡ status_content s)
unfolding status_at
status_takes bytes s e =
    bound (FitsStatus s × (bytes ≡ status_content s)) (required_with (tested_at is_integer) 0x02 bytes) _ s e (λ n r0 e0.
    bound (FitsStatus s × (bytes ≡ status_content s)) (optional_with (tested_at are_texts) 0x30 n.1) _ s e0 (λ t r1 e1.
    bound (FitsStatus s × (bytes ≡ status_content s)) (optional_with bits_inside_at 0x03 t.1) _ s e1 (λ f r2 e2.
    passed (FitsStatus s × (bytes ≡ status_content s)) (eqb (length f.1) 0) (record { status = n.0; text = t.0; fail = f.0 }) s e2 (λ none is.
    let f0 = status_front.takes bytes n.0 n.1 r0 in
    let f1 = text_field.takes n.1 t.0 t.1 r1 in
    let f2 = fail_field.takes t.1 f.0 f.1 r2 in
    subst (λ (x : StatusForm). FitsStatus x × (bytes ≡ status_content x)) is (
      record { status = f0.0; text = f1.0; fail = f2.0 },
      status_made bytes (record { status = n.0; text = t.0; fail = f.0 }) n.1 t.1 f.1 f0.1 f1.1 f2.1 (nothing_over f.1 none),
    )))))

status_again : (s : StatusForm) → FitsStatus s → status_at (status_content s) ≡ Some s
unfolding status_at
status_again s fits =
    rw (
      status_front.again s.status (optional_spelling 0x30 same s.text ++ optional_spelling 0x03 bits_content s.fail) fits.status,
      field_not (tested_at are_texts) 0x30 same IsTexts (omega arith) texts_are_read s.text (optional_spelling 0x03 bits_content s.fail) fits.text (other_tag 0x30 0x03 bits_content s.fail refl),
      field_last bits_inside_at 0x03 bits_content IsBits (omega arith) bits_are_read s.fail fits.fail,
    ) refl

-- The law of statuses.
pub status_is_read : IsRead status_at status_content FitsStatus
status_is_read = record { takes = status_takes; again = status_again }

pub status_field : IsFront (required_with status_at 0x30) (tagged 0x30 status_content) (FitsTagged status_content FitsStatus)
status_field = required_front status_at 0x30 status_content FitsStatus (omega arith) status_is_read

-- a reason is a short string of bits
reason_fits : (fail : FailInfo) → IsBits (reason_bits fail) × (length (bits_content (reason_bits fail)) < 6)
reason_fits reason.BadAlg = (refl, omega arith)
reason_fits reason.BadMessageCheck = (refl, omega arith)
reason_fits reason.BadRequest = (refl, omega arith)
reason_fits reason.BadTime = (refl, omega arith)
reason_fits reason.BadCertId = (refl, omega arith)
reason_fits reason.BadDataFormat = (refl, omega arith)
reason_fits reason.BadPop = (refl, omega arith)
reason_fits reason.CertRevoked = (refl, omega arith)
reason_fits reason.CertConfirmed = (refl, omega arith)
reason_fits reason.WrongIntegrity = (refl, omega arith)
reason_fits reason.BadRecipientNonce = (refl, omega arith)
reason_fits reason.BadSenderNonce = (refl, omega arith)
reason_fits reason.BadCertTemplate = (refl, omega arith)
reason_fits reason.SignerNotTrusted = (refl, omega arith)
reason_fits reason.TransactionIdInUse = (refl, omega arith)
reason_fits reason.UnsupportedVersion = (refl, omega arith)
reason_fits reason.NotAuthorized = (refl, omega arith)
reason_fits reason.SystemUnavail = (refl, omega arith)
reason_fits reason.SystemFailure = (refl, omega arith)
reason_fits reason.DuplicateCertReq = (refl, omega arith)

fail_fits : (fail : Option FailInfo) → FitsOptional bits_content IsBits (option_map reason_bits fail)
fail_fits None = tt
fail_fits (Some fail) = let fits = reason_fits fail in (fits.0, omega (arith, fits.1))

-- how long what is written is at most
fail_size : (fail : Option FailInfo) → length (optional_spelling 0x03 bits_content (option_map reason_bits fail)) ≤ 11
fail_size None = omega arith
fail_size (Some fail) = omega (arith, length_element_le 0x03 (bits_content (reason_bits fail)), (reason_fits fail).1)

text_size : (text : Option (List ℕ)) → length (optional_spelling 0x30 same (option_map one_text text)) ≤ option_size text + 12
text_size None = omega arith
text_size (Some text) = omega (arith, length_element_le 0x30 (one_text text), length_element_le 0x0C text)

pub status_size : (status : ℕ) (text : Option (List ℕ)) (fail : Option FailInfo) → length (status_content (written_status status text fail)) ≤ option_size text + 38
status_size status text fail =
    let s : StatusForm = written_status status text fail in
    omega (
      arith,
      length-append (element 0x02 s.status) (optional_spelling 0x30 same s.text ++ optional_spelling 0x03 bits_content s.fail),
      length-append (optional_spelling 0x30 same s.text) (optional_spelling 0x03 bits_content s.fail),
      length_element_le 0x02 (number_octets status),
      number_size status,
      text_size text,
      fail_size fail,
    )

pub ruleset sizes = (status_size, length_element_le)

-- one text is a row of texts
one_is_row : (text : List ℕ) → IsTrue (is_utf8 text) → length (one_text text) < 2 ^ 32 → IsTexts (one_text text)
one_is_row text h counted =
    let is : IsElement (one_text text) 0x0C text = record { low_tag = omega arith; counted = inside_fits (2 ^ 32) 0x0C text counted; spelled = refl } in
    record {
      parts = part 0x0C text ∷ [];
      row = ([], sym (append-nil (one_text text)), is, refl);
      each = All-cons IsText (part 0x0C text) [] (record { tagged = refl; text = h }) no_more;
    }
  where
    no_more : All IsText []
    no_more = λ k d lt. absurd (omega arith)

text_fits : (text : Option (List ℕ)) → IsTextOrNone text → length (optional_spelling 0x30 same (option_map one_text text)) < 2 ^ 32 → FitsOptional same IsTexts (option_map one_text text)
text_fits None h counted = tt
text_fits (Some text) h counted = let inside = inside_fits (2 ^ 32) 0x30 (one_text text) counted in (one_is_row text h inside, inside)

-- What is written is a status.
written_fits : (status : ℕ) (text : Option (List ℕ)) (fail : Option FailInfo) → status < 2 ^ 64 → IsTextOrNone text → length (status_content (written_status status text fail)) < 2 ^ 32 → FitsStatus (written_status status text fail)
written_fits status text fail small h counted =
    let s : StatusForm = written_status status text fail in
    let rest : length (optional_spelling 0x30 same s.text ++ optional_spelling 0x03 bits_content s.fail) < 2 ^ 32 = back_fits (2 ^ 32) (element 0x02 s.status) (optional_spelling 0x30 same s.text ++ optional_spelling 0x03 bits_content s.fail) counted in
    record {
      status = (number_form status small, omega (arith, number_size status));
      text = text_fits text h (front_fits (2 ^ 32) (optional_spelling 0x30 same s.text) (optional_spelling 0x03 bits_content s.fail) rest);
      fail = fail_fits fail;
    }

pub status_result : {E : Type 0} (r : Result (List ℕ) E) (status : ℕ) (text : Option (List ℕ)) (fail : Option FailInfo) → status < 2 ^ 64 → option_size text + 64 < 2 ^ 32 → IfOk r (λ octets. octets ≡ element 0x30 (status_content (written_status status text fail))) → IsTextOrNone text → IfOk r (λ octets. IsElement octets 0x30 (status_content (written_status status text fail)) × FitsStatus (written_status status text fail))
status_result (Ok octets) status text fail small room e h =
    let counted : length (status_content (written_status status text fail)) < 2 ^ 32 = omega (arith, room, status_size status text fail) in
    (record { low_tag = omega arith; counted = counted; spelled = e }, written_fits status text fail small h counted)
status_result (Err f) status text fail small room e h = tt
