-- Reasons are read exactly where they are spelled.
use Rattle.std.proofs.Common.{◌≡◌, ◌≢◌, ℕ, ◌≤◌, ◌%◌, ◌^◌, ◌<◌, ◌++◌, inl, inr, nat_lt, true, false, IsTrue, List, [], ◌∷◌, length, Option, Some, None, Result, Ok, Err, IfOk, append-nil, refl, sym, ap, subst, ◌∙◌, arith}
use Rattle.std.specs.Prelude.{All}
use Rattle.std.specs.Str.{bytes_eq}
use Rattle.std.proofs.lemmas.Bool.Decides.{nat_tests}
use Rattle.std.proofs.lemmas.List.{length-append}
use Rattle.std.proofs.lemmas.List.Elements.{All-cons}
use Rattle.std.proofs.lemmas.Slice.Eq.{bytes_eq-Decides}
use Rattle.der_base.specs.Element.{element, IsElement}
use Rattle.der_base.specs.Reading.{part}
use Rattle.der_base.specs.Values.{is_oid}
use Rattle.asn_fields.specs.Fields.{Gives}
use Rattle.asn_fields.specs.Forms.{IsRead}
use Rattle.asn_fields.specs.Rows.{entries_spelling, FitsEntries, entries_at}
use Rattle.asn_fields.specs.declared.fault.BadForm.{BadForm}
use Rattle.asn_fields.proofs.FieldLemmas.{bound, passed, some_same, none_some}
use Rattle.asn_fields.proofs.RowLemmas.{entries_are_read}
use Rattle.asn_types.specs.Extension.{ExtensionForm, FitsExtension, IsExtension, extension_content, is_extensions, extension_at}
use Rattle.asn_types.proofs.ExtensionLemmas.{extension_is_read, extensions_test}
use Rattle.asn_types.proofs.LengthLemmas.{length_element_le}
use Rattle.asn_parts.specs.Number.{number_octets}
use Rattle.asn_parts.specs.Parts.{FitsTagged}
use Rattle.asn_parts.proofs.NumberLemmas.{number_size}
use Rattle.asn_parts.proofs.PartLemmas.{sole_is_read}
use Rattle.pki_parts.specs.Reason.{IsReason, reason_code_id, reason_octet, reason_value, reasons_in, GiveReason, AsksReason, IsReasonOf, is_reason, reason_octet_at, reason_value_at, reason_after, with_reason, reason_in_at, reason_at, reason_extension}

-- the reasons
reason_test : (n : ℕ) → is_reason n ≡ true → IsReason n
reason_test n h = grind (arith, nat_tests)

reason_passes : (n : ℕ) → IsReason n → is_reason n ≡ true
reason_passes n h = grind (arith, nat_tests)

octet_takes : (content : List ℕ) (n : ℕ) → reason_octet_at content ≡ Some n → IsReason n × (content ≡ reason_octet n)
unfolding reason_octet_at
octet_takes [] n e = absurd (none_some n e)
octet_takes (m ∷ []) n e = passed (IsReason n × (m ∷ [] ≡ reason_octet n)) (is_reason m) m n e (λ h same. (subst IsReason same (reason_test m h), ap reason_octet same))
octet_takes (m ∷ more ∷ others) n e = absurd (none_some n e)

octet_again : (n : ℕ) → IsReason n → reason_octet_at (reason_octet n) ≡ Some n
unfolding reason_octet_at
octet_again n h = rw (reason_passes n h) refl

octet_is_read : IsRead reason_octet_at reason_octet IsReason
octet_is_read = record { takes = octet_takes; again = octet_again }

value_law : IsRead reason_value_at reason_value (FitsTagged reason_octet IsReason)
value_law = sole_is_read reason_octet_at 0x0A reason_octet IsReason (omega arith) octet_is_read

-- what the values of all reasonCodes give
after_one : (n m : ℕ) (values : List (List ℕ)) → reason_after (Some n) values ≡ Some m → (values ≡ []) × (n ≡ m)
after_one n m [] e = (refl, some_same n m e)
after_one n m (v ∷ values) e = absurd (none_some m e)

one_gives : (value : List ℕ) (more : List (List ℕ)) (n : ℕ) → more ≡ [] → IsReason n × (value ≡ reason_value n) → GiveReason (value ∷ more) n
one_gives value [] n e h = h
one_gives value (v ∷ more) n e h = absurd (let x = e in cc)

among_takes : (values : List (List ℕ)) (n : ℕ) → reason_after None values ≡ Some n → GiveReason values n
among_takes [] n e = sym (some_same 0 n e)
among_takes (value ∷ more) n e =
    bound (GiveReason (value ∷ more) n) (reason_value_at value) (λ (m : ℕ). reason_after (Some m) more) n e (λ m got last.
    let a = after_one m n more last in
    let w = value_law.takes value m got in
    one_gives value more n a.0 (subst (λ (k : ℕ). IsReason k × (value ≡ reason_value k)) a.1 (w.0.0, w.1)))

among_again : (values : List (List ℕ)) (n : ℕ) → GiveReason values n → reason_after None values ≡ Some n
among_again [] n h = ap (λ (k : ℕ). Some k) (sym h)
among_again (value ∷ []) n h = rw (ap reason_value_at h.1 ∙ value_law.again n (h.0, omega arith)) refl
among_again (value ∷ another ∷ more) n h = absurd h

-- the reason of extensions
extension_rows : IsRead (entries_at extension_at 0x30) (entries_spelling 0x30 extension_content) (FitsEntries extension_content FitsExtension)
extension_rows = entries_are_read extension_is_read 0x30 (omega arith)

asked_by : (content : List ℕ) (n : ℕ) (o : Option (List ExtensionForm)) → entries_at extension_at 0x30 content ≡ o → with_reason None o ≡ Some n → AsksReason content n
asked_by content n None read e = absurd (none_some n e)
asked_by content n (Some xs) read e = let w = extension_rows.takes content xs read in record { extensions = xs; fit = w.0; spelled = w.1; reason = among_takes (reasons_in xs) n e }

asked_takes : (content : List ℕ) (n : ℕ) → reason_in_at content ≡ Some n → AsksReason content n
unfolding reason_in_at
asked_takes content n e = asked_by content n (entries_at extension_at 0x30 content) refl e

asked_again : (content : List ℕ) (n : ℕ) → AsksReason content n → reason_in_at content ≡ Some n
unfolding reason_in_at
asked_again content n is = rw (ap (entries_at extension_at 0x30) is.spelled ∙ extension_rows.again is.extensions is.fit, among_again (reasons_in is.extensions) n is.reason) refl

reason_takes : (exts : Option (List ℕ)) (n : ℕ) → reason_at exts ≡ Some n → IsReasonOf exts n
reason_takes None n e = sym (some_same 0 n e)
reason_takes (Some content) n e = asked_takes content n e

pub reason_again : (exts : Option (List ℕ)) (n : ℕ) → IsReasonOf exts n → reason_at exts ≡ Some n
reason_again None n h = ap (λ (k : ℕ). Some k) (sym h)
reason_again (Some content) n h = asked_again content n h

pub reason_found : (exts : Option (List ℕ)) (r : Result ℕ BadForm) → Gives (λ n. n) r (reason_at exts) → IfOk r (IsReasonOf exts)
reason_found exts (Ok n) e = reason_takes exts n e
reason_found exts (Err f) e = tt

pub reason_only : (exts : Option (List ℕ)) (r : Result ℕ BadForm) → Gives (λ n. n) r (reason_at exts) → (n : ℕ) → IsReasonOf exts n → r ≡ Ok n
reason_only exts (Ok m) e n h = ap (λ (k : ℕ). Ok k) (some_same m n (sym e ∙ reason_again exts n h))
reason_only exts (Err f) e n h = absurd (none_some n (sym e ∙ reason_again exts n h))

-- how long what is written is at most
pub id_size : length reason_code_id ≤ 3
unfolding reason_code_id
id_size = omega arith

pub value_size : (reason : ℕ) → length (element 0x04 (element 0x0A (number_octets reason))) ≤ 21
value_size reason = omega (arith, length_element_le 0x04 (element 0x0A (number_octets reason)), length_element_le 0x0A (number_octets reason), number_size reason)

pub inside_size : (reason : ℕ) → length (element 0x06 reason_code_id ++ element 0x04 (element 0x0A (number_octets reason))) ≤ 30
inside_size reason = omega (arith, length-append (element 0x06 reason_code_id) (element 0x04 (element 0x0A (number_octets reason))), length_element_le 0x06 reason_code_id, id_size, value_size reason)

pub extension_size : (reason : ℕ) → length (reason_extension reason) ≤ 36
extension_size reason = omega (arith, length_element_le 0x30 (element 0x06 reason_code_id ++ element 0x04 (element 0x0A (number_octets reason))), inside_size reason)

pub ruleset reason_sizes = (id_size, value_size, inside_size, extension_size)

-- a reasonCode as an extension
abbrev reason_form : ℕ → ExtensionForm
reason_form reason = record { oid = reason_code_id; critical = false; value = element 0x0A (number_octets reason) }

reason_oid : IsTrue (is_oid reason_code_id)
unfolding reason_code_id is_oid
reason_oid = refl

reason_fits : (reason : ℕ) → FitsExtension (reason_form reason)
reason_fits reason = record {
  identifier = reason_oid;
  counted = omega (arith, id_size);
  value_counted = omega (arith, length_element_le 0x0A (number_octets reason), number_size reason);
}

not_nothing : (tag : ℕ) (content : List ℕ) → element tag content ≢ []
unfolding element
not_nothing tag content = λ e. cc

no_more : All IsExtension []
no_more = λ k d lt. absurd (omega arith)

pub reason_extensions : (reason : ℕ) → IsTrue (is_extensions (reason_extension reason))
reason_extensions reason =
    let content : List ℕ = extension_content (reason_form reason) in
    let counted : length content < 2 ^ 32 = omega (arith, inside_size reason) in
    let is : IsElement (element 0x30 content) 0x30 content = record { low_tag = omega arith; counted = counted; spelled = refl } in
    let one : IsExtension (part 0x30 content) = record { form = reason_form reason; is_sequence = refl; fits = reason_fits reason; spelled = refl } in
    (extensions_test (reason_extension reason)).1 (record {
      some = not_nothing 0x30 content;
      row = record { parts = part 0x30 content ∷ []; row = ([], sym (append-nil (element 0x30 content)), is, refl); each = All-cons IsExtension (part 0x30 content) [] one no_more };
    })

small_number : (n : ℕ) → n < 128 → number_octets n ≡ n ∷ []
unfolding number_octets
small_number n h =
    let small : nat_lt n (2 ^ 7) ≡ true = grind (arith, nat_tests) in
    let same_n : n % 256 ≡ n = omega (arith, h) in
    rw small (ap (λ (k : ℕ). k ∷ []) same_n)

reason_small : (n : ℕ) → IsReason n → n < 128
reason_small n (inl h) = omega (arith, h)
reason_small n (inr (inl e)) = omega (arith, e)
reason_small n (inr (inr e)) = omega (arith, e)

reasons_of_one : (reason : ℕ) → reasons_in (reason_form reason ∷ []) ≡ element 0x0A (number_octets reason) ∷ []
reasons_of_one reason =
    let test : bytes_eq reason_code_id reason_code_id ≡ true = (bytes_eq-Decides reason_code_id reason_code_id).1 refl in
    rw test refl

-- a reason that was written is read again
pub reason_written : (reason : ℕ) → IsReason reason → IsReasonOf (Some (reason_extension reason)) reason
reason_written reason h = record {
  extensions = reason_form reason ∷ [];
  fit = (reason_fits reason, omega (arith, inside_size reason), tt);
  spelled = sym (append-nil (reason_extension reason));
  reason = subst (λ (l : List (List ℕ)). GiveReason l reason) (sym (reasons_of_one reason)) (h, ap (element 0x0A) (small_number reason (reason_small reason h)));
}
