-- Requests to revoke are read exactly where they are spelled.
use Rattle.std.proofs.Common.{◌≡◌, ℕ, ◌+◌, ◌≤◌, ◌^◌, ◌<◌, ◌++◌, eqb, List, [], ◌∷◌, length, Some, Result, Ok, Err, IfOk, append-nil, refl, sym, ap, subst, ◌∙◌, arith}
use Rattle.std.proofs.lemmas.List.{length-append}
use Rattle.der_base.specs.Element.{element}
use Rattle.der_base.specs.Reading.{part}
use Rattle.asn_fields.specs.Fields.{optional_with}
use Rattle.asn_fields.specs.Forms.{IsRead, IsFront, IsField, optional_spelling}
use Rattle.asn_fields.specs.Rows.{row_of}
use Rattle.asn_fields.proofs.FieldLemmas.{bound, passed, optional_field}
use Rattle.asn_types.specs.Extension.{is_extensions}
use Rattle.asn_types.specs.Template.{FitsTemplate, IsWholeName, Passes, same, template_content, tested_at, template_at}
use Rattle.asn_types.proofs.LengthLemmas.{length_element_le}
use Rattle.asn_types.proofs.TemplateLemmas.{template_is_read}
use Rattle.asn_parts.specs.Number.{number_octets}
use Rattle.asn_parts.specs.Parts.{tagged, FitsTagged, required_with}
use Rattle.asn_parts.proofs.NumberLemmas.{number_form, number_size}
use Rattle.asn_parts.proofs.PartLemmas.{tested_is_read, required_front}
use Rattle.pki_parts.specs.Lists.{IsOne}
use Rattle.pki_parts.specs.Reason.{IsReasonOf, reason_extension}
use Rattle.pki_parts.specs.Revocation.{RevForm, rev_content, FitsRev, IsRevReq, GivesReason, rev_at, rev_template_octets, rev_req_octets, rev_template, rev_details}
use Rattle.pki_parts.proofs.FieldLemmas.{nothing_over, field_last}
use Rattle.pki_parts.proofs.ListLemmas.{one_entry, one_written}
use Rattle.pki_parts.proofs.ReasonLemmas.{extension_size, reason_extensions}

template_front : IsFront (required_with template_at 0x30) (tagged 0x30 template_content) (FitsTagged template_content FitsTemplate)
template_front = required_front template_at 0x30 template_content FitsTemplate (omega arith) template_is_read

exts_field : IsField (optional_with (tested_at is_extensions) 0x30) 0x30 same (Passes is_extensions)
exts_field = optional_field (tested_at is_extensions) 0x30 same (Passes is_extensions) (omega arith) (tested_is_read is_extensions)

rev_made : (content : List ℕ) (r : RevForm) (r0 r1 : List ℕ) → content ≡ element 0x30 (template_content r.template) ++ r0 → r0 ≡ optional_spelling 0x30 same r.exts ++ r1 → r1 ≡ [] → content ≡ rev_content r
rev_made content r r0 r1 e0 e1 end =
    e0 ∙ ap (λ (l : List ℕ). element 0x30 (template_content r.template) ++ l) (e1 ∙ ap (λ (l : List ℕ). optional_spelling 0x30 same r.exts ++ l) end ∙ append-nil (optional_spelling 0x30 same r.exts))

rev_takes : (content : List ℕ) (r : RevForm) → rev_at content ≡ Some r → FitsRev r × (content ≡ rev_content r)
unfolding rev_at
rev_takes content r e =
    bound (FitsRev r × (content ≡ rev_content r)) (required_with template_at 0x30 content) _ r e (λ t r0 e0.
    bound (FitsRev r × (content ≡ rev_content r)) (optional_with (tested_at is_extensions) 0x30 t.1) _ r e0 (λ x r1 e1.
    passed (FitsRev r × (content ≡ rev_content r)) (eqb (length x.1) 0) (record { template = t.0; exts = x.0 }) r e1 (λ none is.
    let f0 = template_front.takes content t.0 t.1 r0 in
    let f1 = exts_field.takes t.1 x.0 x.1 r1 in
    subst (λ (y : RevForm). FitsRev y × (content ≡ rev_content y)) is (
      record { template = f0.0; exts = f1.0 },
      rev_made content (record { template = t.0; exts = x.0 }) t.1 x.1 f0.1 f1.1 (nothing_over x.1 none),
    ))))

rev_again : (r : RevForm) → FitsRev r → rev_at (rev_content r) ≡ Some r
unfolding rev_at
rev_again r fits = rw (template_front.again r.template (optional_spelling 0x30 same r.exts) fits.template, field_last (tested_at is_extensions) 0x30 same (Passes is_extensions) (omega arith) (tested_is_read is_extensions) r.exts fits.exts) refl

-- The law of a certificate's details.
pub rev_is_read : IsRead rev_at rev_content FitsRev
rev_is_read = record { takes = rev_takes; again = rev_again }

-- the details of one certificate
template_spelled : (issuer : List ℕ) (serial : ℕ) → rev_template_octets issuer serial ≡ template_content (rev_template issuer serial)
template_spelled issuer serial = ap (λ (l : List ℕ). element 0x81 (number_octets serial) ++ l) (sym (append-nil (element 0xA3 issuer)))

abbrev details_octets : List ℕ → ℕ → ℕ → List ℕ
details_octets issuer serial reason = element 0x30 (rev_template_octets issuer serial) ++ element 0x30 (reason_extension reason)

details_spelled : (issuer : List ℕ) (serial reason : ℕ) → details_octets issuer serial reason ≡ rev_content (rev_details issuer serial reason)
details_spelled issuer serial reason = ap (λ (l : List ℕ). element 0x30 l ++ element 0x30 (reason_extension reason)) (template_spelled issuer serial)

pub template_size : (issuer : List ℕ) (serial : ℕ) → length (rev_template_octets issuer serial) ≤ length issuer + 21
template_size issuer serial = omega (arith, length-append (element 0x81 (number_octets serial)) (element 0xA3 issuer), length_element_le 0x81 (number_octets serial), number_size serial, length_element_le 0xA3 issuer)

pub details_size : (issuer : List ℕ) (serial reason : ℕ) → length (element 0x30 (rev_template_octets issuer serial) ++ element 0x30 (reason_extension reason)) ≤ length issuer + 69
details_size issuer serial reason =
    omega (arith, length-append (element 0x30 (rev_template_octets issuer serial)) (element 0x30 (reason_extension reason)), length_element_le 0x30 (rev_template_octets issuer serial), template_size issuer serial, length_element_le 0x30 (reason_extension reason), extension_size reason)

pub ruleset details_sizes = (details_size, template_size, extension_size)

template_fits : (issuer : List ℕ) (serial : ℕ) → IsWholeName issuer → serial < 2 ^ 64 → length issuer + 128 < 2 ^ 32 → FitsTemplate (rev_template issuer serial)
template_fits issuer serial name small counted = record {
  version = tt;
  serial = (number_form serial small, omega (arith, number_size serial));
  alg = tt;
  issuer = (name, omega (arith, counted));
  validity = tt;
  subject = tt;
  key = tt;
  issuer_uid = tt;
  subject_uid = tt;
  exts = tt;
}

details_fit : (issuer : List ℕ) (serial reason : ℕ) → IsWholeName issuer → serial < 2 ^ 64 → length issuer + 128 < 2 ^ 32 → FitsRev (rev_details issuer serial reason)
details_fit issuer serial reason name small counted =
    let inside : length (rev_template_octets issuer serial) < 2 ^ 32 = omega (arith, counted, template_size issuer serial) in
    record {
      template = (template_fits issuer serial name small counted, subst (λ (l : List ℕ). length l < 2 ^ 32) (template_spelled issuer serial) inside);
      exts = (reason_extensions reason, omega (arith, extension_size reason));
    }

pub rev_req_result : {E : Type 0} (r : Result (List ℕ) E) (issuer : List ℕ) (serial reason : ℕ) → serial < 2 ^ 64 → length issuer + 128 < 2 ^ 32 → IfOk r (λ octets. octets ≡ rev_req_octets issuer serial reason) → IsWholeName issuer → IfOk r (IsOne (λ p. IsRevReq p (row_of (rev_details issuer serial reason ∷ []))))
rev_req_result r issuer serial reason small counted e name =
    let octets : List ℕ = details_octets issuer serial reason in
    let d : RevForm = rev_details issuer serial reason in
    let same_octets : octets ≡ rev_content d = details_spelled issuer serial reason in
    let inside : length octets < 2 ^ 32 = omega (arith, counted, details_size issuer serial reason) in
    let entry : length (element 0x30 octets) < 2 ^ 32 = omega (arith, counted, length_element_le 0x30 octets, details_size issuer serial reason) in
    one_written (λ p. IsRevReq p (row_of (d ∷ []))) r (element 0x30 octets) entry
    (subst (λ (l : List ℕ). IsRevReq (part 0x30 (element 0x30 l)) (row_of (d ∷ []))) (sym same_octets)
    (one_entry rev_content FitsRev d (details_fit issuer serial reason name small counted) (subst (λ (l : List ℕ). length l < 2 ^ 32) same_octets inside))) e

-- and so is its reason
pub rev_req_reason : {E : Type 0} (r : Result (List ℕ) E) (issuer : List ℕ) (serial reason : ℕ) → IfOk r (IsOne (λ p. IsRevReq p (row_of (rev_details issuer serial reason ∷ [])))) → IsReasonOf (Some (reason_extension reason)) reason → IfOk r (λ octets. GivesReason octets reason)
rev_req_reason (Ok octets) issuer serial reason one given = record { details = rev_details issuer serial reason; one = one; given = given }
rev_req_reason (Err e) issuer serial reason one given = tt

-- how long it is at most
pub rev_req_size : (issuer : List ℕ) (serial reason : ℕ) → length (rev_req_octets issuer serial reason) ≤ length issuer + 128
rev_req_size issuer serial reason =
    omega (arith, length_element_le 0x30 (element 0x30 (details_octets issuer serial reason)), length_element_le 0x30 (details_octets issuer serial reason), details_size issuer serial reason)
