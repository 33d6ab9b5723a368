-- Fields of requests are read exactly where they are spelled.
use Rattle.std.proofs.Common.{◌≡◌, ℕ, ◌^◌, ◌<◌, List, [], ◌∷◌, length, Option, Some, append-nil, refl, ap, subst, ◌∙◌, arith}
use Rattle.der_base.specs.Element.{element, IsElement}
use Rattle.der_base.specs.Reading.{Part}
use Rattle.asn_fields.specs.Fields.{◌>>=◌, sole_at}
use Rattle.asn_fields.specs.Forms.{IsRead}
use Rattle.asn_fields.proofs.FieldLemmas.{IsTagged, bound, sole_takes, sole_reads}
use Rattle.asn_types.specs.Key.{plain_bits_at}
use Rattle.asn_types.proofs.ValueLemmas.{plain_bits_takes, plain_bits_again}
use Rattle.req_forms.specs.Possession.{signature_element, FitsSignature, sole_signature_at}

-- a signature that stands alone
signature_by : (bytes octets : List ℕ) (p : Part) → IsTagged 0x03 bytes p [] → p.content ≡ 0 ∷ octets → FitsSignature octets × (bytes ≡ signature_element octets)
signature_by bytes octets p t e =
    let counted : length (0 ∷ octets) < 2 ^ 32 = subst (λ (l : List ℕ). length l < 2 ^ 32) e t.element_is.counted in
    (omega (arith, counted), t.parts ∙ append-nil p.whole ∙ t.element_is.spelled ∙ ap (element 0x03) e)

signature_takes : (bytes octets : List ℕ) → sole_signature_at bytes ≡ Some octets → FitsSignature octets × (bytes ≡ signature_element octets)
unfolding sole_signature_at
signature_takes bytes octets e =
    bound (FitsSignature octets × (bytes ≡ signature_element octets)) (sole_at 0x03 bytes) plain_bits_at octets e (λ p read got.
    signature_by bytes octets p (sole_takes 0x03 bytes p read) (plain_bits_takes p octets got).1)

signature_again : (octets : List ℕ) → FitsSignature octets → sole_signature_at (signature_element octets) ≡ Some octets
unfolding sole_signature_at
signature_again octets fits =
    let is : IsElement (signature_element octets) 0x03 (0 ∷ octets) = record { low_tag = omega arith; counted = omega (arith, fits); spelled = refl } in
    ap (λ (q : Option Part). q >>= plain_bits_at) (sole_reads 0x03 (signature_element octets) (0 ∷ octets) is) ∙ plain_bits_again octets

pub signature_is_read : IsRead sole_signature_at signature_element FitsSignature
signature_is_read = record { takes = signature_takes; again = signature_again }
