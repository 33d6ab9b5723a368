-- Confirmations are read exactly where they are spelled.
use Rattle.std.proofs.Common.{◌≡◌, ℕ, ℤ, ◌+◌, ◌≤◌, ◌^◌, ◌<◌, ◌++◌, eqb, List, [], ◌∷◌, length, Option, Some, None, option_map, IfSome, Result, Ok, Err, IfOk, append-nil, refl, sym, ap, subst, ◌∙◌, arith}
use Rattle.std.proofs.lemmas.List.{length-append}
use Rattle.der_base.specs.Element.{element}
use Rattle.der_base.specs.Reading.{part}
use Rattle.der_base.specs.Values.{is_integer}
use Rattle.asn_fields.specs.Fields.{optional_with}
use Rattle.asn_fields.specs.Forms.{IsRead, IsFront, IsField, optional_spelling, FitsOptional}
use Rattle.asn_fields.specs.Rows.{row_of}
use Rattle.asn_fields.proofs.FieldLemmas.{bound, passed, optional_field}
use Rattle.asn_types.specs.Algorithm.{FitsAlgorithm, algorithm_content, algorithm_at}
use Rattle.asn_types.specs.Template.{IsAnything, Passes, same, tested_at, anything_at}
use Rattle.asn_types.proofs.AlgorithmLemmas.{algorithm_is_read}
use Rattle.asn_types.proofs.LengthLemmas.{length_element_le}
use Rattle.asn_parts.specs.Number.{number_octets}
use Rattle.asn_parts.specs.Parts.{tagged, FitsTagged, required_with, sole_with}
use Rattle.asn_parts.proofs.NumberLemmas.{number_form, number_size}
use Rattle.asn_parts.proofs.PartLemmas.{tested_is_read, anything_is_read, required_front, sole_is_read}
use Rattle.pki_parts.specs.Identifier.{id_octets}
use Rattle.pki_parts.specs.Lists.{IsOne}
use Rattle.pki_parts.specs.Status.{StatusForm, FitsStatus, status_content, status_at}
use Rattle.pki_parts.specs.Confirmation.{CertStatusForm, cert_status_content, FitsCertStatus, IsConfirm, cert_status_at, written_info, status_octets, confirm_octets, written_status_of}
use Rattle.pki_parts.proofs.FieldLemmas.{nothing_over, field_not, field_last, other_tag}
use Rattle.pki_parts.proofs.ListLemmas.{one_entry, one_written, id_fits}
use Rattle.pki_parts.proofs.StatusLemmas.{status_is_read}

-- the fields
hash_front : IsFront (required_with anything_at 0x04) (tagged 0x04 same) (FitsTagged same IsAnything)
hash_front = required_front anything_at 0x04 same IsAnything (omega arith) anything_is_read

id_front : IsFront (required_with (tested_at is_integer) 0x02) (tagged 0x02 same) (FitsTagged same (Passes is_integer))
id_front = required_front (tested_at is_integer) 0x02 same (Passes is_integer) (omega arith) (tested_is_read is_integer)

status_field : IsField (optional_with status_at 0x30) 0x30 status_content FitsStatus
status_field = optional_field status_at 0x30 status_content FitsStatus (omega arith) status_is_read

alg_law : IsRead (sole_with algorithm_at 0x30) (tagged 0x30 algorithm_content) (FitsTagged algorithm_content FitsAlgorithm)
alg_law = sole_is_read algorithm_at 0x30 algorithm_content FitsAlgorithm (omega arith) algorithm_is_read

alg_field : IsField (optional_with (sole_with algorithm_at 0x30) 0xA0) 0xA0 (tagged 0x30 algorithm_content) (FitsTagged algorithm_content FitsAlgorithm)
alg_field = optional_field (sole_with algorithm_at 0x30) 0xA0 (tagged 0x30 algorithm_content) (FitsTagged algorithm_content FitsAlgorithm) (omega arith) alg_law

abbrev alg_octets : CertStatusForm → List ℕ
alg_octets c = optional_spelling 0xA0 (tagged 0x30 algorithm_content) c.hash_alg

abbrev after_id : CertStatusForm → List ℕ
after_id c = optional_spelling 0x30 status_content c.status ++ alg_octets c

cert_status_made : (content : List ℕ) (c : CertStatusForm) (r0 r1 r2 r3 : List ℕ) → content ≡ element 0x04 c.hash ++ r0 → r0 ≡ element 0x02 c.id ++ r1 → r1 ≡ optional_spelling 0x30 status_content c.status ++ r2 → r2 ≡ alg_octets c ++ r3 → r3 ≡ [] → content ≡ cert_status_content c
cert_status_made content c r0 r1 r2 r3 e0 e1 e2 e3 end =
    let s2 : r2 ≡ alg_octets c = e3 ∙ ap (λ (l : List ℕ). alg_octets c ++ l) end ∙ append-nil (alg_octets c) in
    let s1 : r1 ≡ after_id c = e2 ∙ ap (λ (l : List ℕ). optional_spelling 0x30 status_content c.status ++ l) s2 in
    e0 ∙ ap (λ (l : List ℕ). element 0x04 c.hash ++ l) (e1 ∙ ap (λ (l : List ℕ). element 0x02 c.id ++ l) s1)

cert_status_takes : (content : List ℕ) (c : CertStatusForm) → cert_status_at content ≡ Some c → FitsCertStatus c × (content ≡ cert_status_content c)
unfolding cert_status_at
cert_status_takes content c e =
    bound (FitsCertStatus c × (content ≡ cert_status_content c)) (required_with anything_at 0x04 content) _ c e (λ v0 r0 e0.
    bound (FitsCertStatus c × (content ≡ cert_status_content c)) (required_with (tested_at is_integer) 0x02 v0.1) _ c e0 (λ v1 r1 e1.
    bound (FitsCertStatus c × (content ≡ cert_status_content c)) (optional_with status_at 0x30 v1.1) _ c e1 (λ v2 r2 e2.
    bound (FitsCertStatus c × (content ≡ cert_status_content c)) (optional_with (sole_with algorithm_at 0x30) 0xA0 v2.1) _ c e2 (λ v3 r3 e3.
    let made : CertStatusForm = record { hash = v0.0; id = v1.0; status = v2.0; hash_alg = v3.0 } in
    passed (FitsCertStatus c × (content ≡ cert_status_content c)) (eqb (length v3.1) 0) made c e3 (λ none is.
    let f0 = hash_front.takes content v0.0 v0.1 r0 in
    let f1 = id_front.takes v0.1 v1.0 v1.1 r1 in
    let f2 = status_field.takes v1.1 v2.0 v2.1 r2 in
    let f3 = alg_field.takes v2.1 v3.0 v3.1 r3 in
    subst (λ (x : CertStatusForm). FitsCertStatus x × (content ≡ cert_status_content x)) is (
      record { hash = f0.0; id = f1.0; status = f2.0; hash_alg = f3.0 },
      cert_status_made content made v0.1 v1.1 v2.1 v3.1 f0.1 f1.1 f2.1 f3.1 (nothing_over v3.1 none),
    ))))))

cert_status_again : (c : CertStatusForm) → FitsCertStatus c → cert_status_at (cert_status_content c) ≡ Some c
unfolding cert_status_at
cert_status_again c fits =
    rw (
      hash_front.again c.hash (element 0x02 c.id ++ after_id c) fits.hash,
      id_front.again c.id (after_id c) fits.id,
      field_not status_at 0x30 status_content FitsStatus (omega arith) status_is_read c.status (alg_octets c) fits.status (other_tag 0x30 0xA0 (tagged 0x30 algorithm_content) c.hash_alg refl),
      field_last (sole_with algorithm_at 0x30) 0xA0 (tagged 0x30 algorithm_content) (FitsTagged algorithm_content FitsAlgorithm) (omega arith) alg_law c.hash_alg fits.hash_alg,
    ) refl

-- The law of a certificate's status.
pub cert_status_is_read : IsRead cert_status_at cert_status_content FitsCertStatus
cert_status_is_read = record { takes = cert_status_takes; again = cert_status_again }

-- how long what is written is at most
pub status_size : (status : Option ℕ) → length (status_octets status) ≤ 21
status_size None = omega arith
status_size (Some n) = omega (arith, length_element_le 0x30 (element 0x02 (number_octets n)), length_element_le 0x02 (number_octets n), number_size n)

abbrev entry_octets : List ℕ → ℤ → Option ℕ → List ℕ
entry_octets hash id status = element 0x04 hash ++ (element 0x02 (id_octets id) ++ status_octets status)

pub confirm_size : (hash : List ℕ) (id : ℤ) (status : Option ℕ) → length (element 0x04 hash ++ (element 0x02 (id_octets id) ++ status_octets status)) ≤ length hash + 34
confirm_size hash id status =
    omega (arith, length-append (element 0x04 hash) (element 0x02 (id_octets id) ++ status_octets status), length-append (element 0x02 (id_octets id)) (status_octets status), length_element_le 0x04 hash, length_element_le 0x02 (id_octets id), status_size status)

pub ruleset confirm_sizes = (confirm_size, status_size)

-- What was written is read again.
abbrev status_form : Option ℕ → Option StatusForm
status_form = option_map written_info

info_spelled : (n : ℕ) → element 0x02 (number_octets n) ≡ status_content (written_info n)
info_spelled n = sym (append-nil (element 0x02 (number_octets n)))

status_spelled : (status : Option ℕ) → status_octets status ≡ optional_spelling 0x30 status_content (status_form status)
status_spelled None = refl
status_spelled (Some n) = ap (element 0x30) (info_spelled n)

entry_spelled : (hash : List ℕ) (id : ℤ) (status : Option ℕ) → entry_octets hash id status ≡ cert_status_content (written_status_of hash id status)
entry_spelled hash id status =
    ap (λ (l : List ℕ). element 0x04 hash ++ (element 0x02 (id_octets id) ++ l))
    (status_spelled status ∙ sym (append-nil (optional_spelling 0x30 status_content (status_form status))))

status_fits : (status : Option ℕ) → IfSome status (λ n. n < 2 ^ 64) → FitsOptional status_content FitsStatus (status_form status)
status_fits None small = tt
status_fits (Some n) small =
    let inside : length (element 0x02 (number_octets n)) < 2 ^ 32 = omega (arith, length_element_le 0x02 (number_octets n), number_size n) in (
      record { status = (number_form n small, omega (arith, number_size n)); text = tt; fail = tt },
      subst (λ (l : List ℕ). length l < 2 ^ 32) (info_spelled n) inside,
    )

entry_fits : (hash : List ℕ) (id : ℤ) (status : Option ℕ) → length hash + 64 < 2 ^ 32 → IfSome status (λ n. n < 2 ^ 64) → FitsCertStatus (written_status_of hash id status)
entry_fits hash id status counted small = record {
  hash = (tt, omega (arith, counted));
  id = id_fits id;
  status = status_fits status small;
  hash_alg = tt;
}

small_status : (status : Option ℕ) → IfSome status (λ n. n < 2 ^ 8) → IfSome status (λ n. n < 2 ^ 64)
small_status None h = tt
small_status (Some n) h = omega (arith, h)

pub confirm_result : {E : Type 0} (r : Result (List ℕ) E) (hash : List ℕ) (id : ℤ) (status : Option ℕ) → IfOk r (λ octets. IfSome status (λ n. n < 2 ^ 8)) → length hash + 64 < 2 ^ 32 → IfOk r (λ octets. octets ≡ confirm_octets hash id status) → IfOk r (IsOne (λ p. IsConfirm p (row_of (written_status_of hash id status ∷ []))))
confirm_result (Ok written) hash id status small counted e =
    let octets : List ℕ = entry_octets hash id status in
    let c : CertStatusForm = written_status_of hash id status in
    let same_octets : octets ≡ cert_status_content c = entry_spelled hash id status in
    let inside : length octets < 2 ^ 32 = omega (arith, counted, confirm_size hash id status) in
    let entry : length (element 0x30 octets) < 2 ^ 32 = omega (arith, counted, length_element_le 0x30 octets, confirm_size hash id status) in
    let r : Result (List ℕ) (Unit {0}) = Ok written in
    one_written (λ p. IsConfirm p (row_of (c ∷ []))) r (element 0x30 octets) entry
    (subst (λ (l : List ℕ). IsConfirm (part 0x30 (element 0x30 l)) (row_of (c ∷ []))) (sym same_octets)
    (one_entry cert_status_content FitsCertStatus c (entry_fits hash id status counted (small_status status small)) (subst (λ (l : List ℕ). length l < 2 ^ 32) same_octets inside))) e
confirm_result (Err f) hash id status small counted e = tt

-- how long it is at most
pub confirm_total : (hash : List ℕ) (id : ℤ) (status : Option ℕ) → length (confirm_octets hash id status) ≤ length hash + 64
confirm_total hash id status =
    omega (arith, length_element_le 0x30 (element 0x30 (entry_octets hash id status)), length_element_le 0x30 (entry_octets hash id status), confirm_size hash id status)
