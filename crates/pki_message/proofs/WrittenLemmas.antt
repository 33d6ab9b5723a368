-- How long a written message is, and that it is read again.
use Rattle.std.proofs.Common.{◌≡◌, ℕ, ◌+◌, ◌^◌, ◌<◌, ◌≤◌, ◌++◌, List, ◌∷◌, length, Option, Some, None, Result, Ok, Err, IfOk, refl, ap, subst, ◌∙◌, arith}
use Rattle.std.specs.Prelude.{option_map}
use Rattle.std.proofs.lemmas.List.{length-append}
use Rattle.der_base.specs.Element.{element}
use Rattle.asn_fields.specs.Forms.{optional_spelling}
use Rattle.asn_types.specs.Template.{same}
use Rattle.asn_types.proofs.LengthLemmas.{length_element_le}
use Rattle.pki_parts.specs.Status.{option_size}
use Rattle.pki_message.specs.Frame.{FrameForm, bits_spelling, frame_content, FitsFrame, message_limit, IsFrame}
use Rattle.pki_message.specs.Message.{MessageForm, frame_in, FitsMessage, IsMessage}
use Rattle.pki_message.specs.Written.{HasParts, one_certificate, written_content, message_size}

-- how long the parts are at most
pub protection_size : (o : Option (List ℕ)) → length (optional_spelling 0xA0 bits_spelling o) ≤ option_size o + 13
protection_size None = omega arith
protection_size (Some octets) = omega (arith, length_element_le 0xA0 (bits_spelling octets), length_element_le 0x03 (0 ∷ octets))

pub extra_size : (o : Option (List ℕ)) → length (optional_spelling 0xA1 same (option_map one_certificate o)) ≤ option_size o + 12
extra_size None = omega arith
extra_size (Some cert) = omega (arith, length_element_le 0xA1 (one_certificate cert), length_element_le 0x30 cert)

pub content_size : (h b : List ℕ) (p c : Option (List ℕ)) → length (written_content h b p c) + 39 ≤ message_size h b p c
content_size h b p c =
    let protection = optional_spelling 0xA0 bits_spelling p in
    let extra = optional_spelling 0xA1 same (option_map one_certificate c) in
    omega (arith, length-append h (b ++ (protection ++ extra)), length-append b (protection ++ extra), length-append protection extra, protection_size p, extra_size c)

pub ruleset sizes = (protection_size, extra_size, content_size)

written_by : (octets : List ℕ) (f : FrameForm) (h b : List ℕ) (p c : Option (List ℕ)) → message_size h b p c < 2 ^ 32 → FitsFrame f → HasParts f h b p c → octets ≡ element 0x30 (written_content h b p c) → length octets ≤ message_limit → IsFrame octets f
written_by octets f h b p c counted fits has e limited =
    let same_parts : written_content h b p c ≡ frame_content f = rw (has.header, has.body, has.protection, has.extra) refl in
    let short : length (written_content h b p c) < 2 ^ 32 = omega (arith, counted, content_size h b p c) in
    record {
      fits = fits;
      alone = record { low_tag = omega arith; counted = subst (λ (l : List ℕ). length l < 2 ^ 32) same_parts short; spelled = e ∙ ap (element 0x30) same_parts };
      limited = limited;
    }

-- what is written is read again
pub frame_written : {E : Type 0} (r : Result (List ℕ) E) (h b : List ℕ) (p c : Option (List ℕ)) → message_size h b p c < 2 ^ 32 → IfOk r (λ octets. octets ≡ element 0x30 (written_content h b p c))
    → (f : FrameForm) → FitsFrame f → HasParts f h b p c → IfOk r (λ octets. length octets ≤ message_limit → IsFrame octets f)
frame_written (Ok octets) h b p c counted e f fits has = λ limited. written_by octets f h b p c counted fits has e limited
frame_written (Err x) h b p c counted e f fits has = tt

message_by : (octets : List ℕ) (m : MessageForm) → FitsMessage m → IsFrame octets (frame_in m) → IsMessage octets m
message_by octets m fits is = record { fits = fits; alone = is.alone; limited = is.limited }

pub message_written : {E : Type 0} (r : Result (List ℕ) E) (h b : List ℕ) (p c : Option (List ℕ)) → message_size h b p c < 2 ^ 32 → IfOk r (λ octets. octets ≡ element 0x30 (written_content h b p c))
    → (m : MessageForm) → FitsMessage m → HasParts (frame_in m) h b p c → IfOk r (λ octets. length octets ≤ message_limit → IsMessage octets m)
message_written (Ok octets) h b p c counted e m fits has = λ limited. message_by octets m fits (written_by octets (frame_in m) h b p c counted fits.frame has e limited)
message_written (Err x) h b p c counted e m fits has = tt

-- and no longer than that
size_by : (octets h b : List ℕ) (p c : Option (List ℕ)) → octets ≡ element 0x30 (written_content h b p c) → length octets ≤ message_size h b p c
size_by octets h b p c e = omega (arith, ap (λ (l : List ℕ). length l) e, length_element_le 0x30 (written_content h b p c), content_size h b p c)

pub written_size : {E : Type 0} (r : Result (List ℕ) E) (h b : List ℕ) (p c : Option (List ℕ)) → IfOk r (λ octets. octets ≡ element 0x30 (written_content h b p c)) → IfOk r (λ octets. length octets ≤ message_size h b p c)
written_size (Ok octets) h b p c e = size_by octets h b p c e
written_size (Err x) h b p c e = tt
