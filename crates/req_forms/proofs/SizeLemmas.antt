-- How long what is written is at most.
use Rattle.std.proofs.Common.{ℕ, ◌+◌, ◌≤◌, ◌++◌, List, [], ◌∷◌, length, Option, Some, None, arith}
use Rattle.std.proofs.lemmas.List.{length-append}
use Rattle.der_base.specs.Element.{element}
use Rattle.asn_types.proofs.LengthLemmas.{length_element_le}
use Rattle.asn_parts.specs.Number.{number_octets}
use Rattle.asn_parts.proofs.NumberLemmas.{number_size}
use Rattle.req_forms.specs.Controls.{old_cert_id}
use Rattle.req_forms.specs.Possession.{signature_element}
use Rattle.req_forms.specs.Attributes.{extension_request_id}
use Rattle.req_forms.specs.Written.{hss_lms, hss_algorithm, retagged, template_extensions, template_octets, old_octets, control_octets, request_octets, proof_octets, around_octets, crmf_octets, asked_octets, info_octets, p10_octets}
use Rattle.req_forms.specs.declared.wish.CrmfWish.{CrmfWish}
use Rattle.req_forms.specs.declared.wish.Proof.{Proof}
use Rattle.req_forms.specs.declared.wish.Proof.TheVariants as variant

retagged_size : (tag : ℕ) (octets : List ℕ) → length (retagged tag octets) ≤ length octets
retagged_size tag [] = omega arith
retagged_size tag (b ∷ more) = omega arith

extensions_size : (exts : List ℕ) → length (template_extensions exts) ≤ length exts + 6
extensions_size [] = omega arith
extensions_size (b ∷ more) = length_element_le 0xA9 (b ∷ more)

template_size : (subject spki exts : List ℕ) → length (template_octets subject spki exts) ≤ length subject + length spki + length exts + 12
template_size subject spki exts =
    omega (arith, length-append (element 0xA5 subject) (retagged 0xA6 spki ++ template_extensions exts), length-append (retagged 0xA6 spki) (template_extensions exts), length_element_le 0xA5 subject, retagged_size 0xA6 spki, extensions_size exts)

old_id_size : length old_cert_id ≤ 9
unfolding old_cert_id
old_id_size = omega arith

old_size : (issuer : List ℕ) (serial : ℕ) → length (old_octets issuer serial) ≤ length issuer + 21
old_size issuer serial = omega (arith, length-append (element 0xA4 issuer) (element 0x02 (number_octets serial)), length_element_le 0xA4 issuer, length_element_le 0x02 (number_octets serial), number_size serial)

control_size : (issuer : List ℕ) (old : Option ℕ) → length (control_octets issuer old) ≤ length issuer + 54
control_size issuer None = omega arith
control_size issuer (Some serial) =
    omega (arith, length_element_le 0x30 (element 0x30 (element 0x06 old_cert_id ++ element 0x30 (old_octets issuer serial))), length_element_le 0x30 (element 0x06 old_cert_id ++ element 0x30 (old_octets issuer serial)), length-append (element 0x06 old_cert_id) (element 0x30 (old_octets issuer serial)), length_element_le 0x06 old_cert_id, old_id_size, length_element_le 0x30 (old_octets issuer serial), old_size issuer serial)

request_size : (w : CrmfWish) → length (request_octets w) ≤ length w.subject + length w.spki + length w.exts + length w.issuer + 79
request_size w =
    omega (arith, length-append (element 0x02 (0 ∷ [])) (element 0x30 (template_octets w.subject w.spki w.exts) ++ control_octets w.issuer w.old), length_element_le 0x02 (0 ∷ []), length-append (element 0x30 (template_octets w.subject w.spki w.exts)) (control_octets w.issuer w.old), length_element_le 0x30 (template_octets w.subject w.spki w.exts), template_size w.subject w.spki w.exts, control_size w.issuer w.old)

-- What is written as a wish's request is at most so long.
pub whole_request_size : (w : CrmfWish) → length (element 0x30 (request_octets w)) ≤ length w.subject + length w.spki + length w.exts + length w.issuer + 85
whole_request_size w = omega (arith, length_element_le 0x30 (request_octets w), request_size w)

pub hss_size : length hss_lms ≤ 11
unfolding hss_lms
hss_size = omega arith

signature_size : (sig : List ℕ) → length (hss_algorithm ++ signature_element sig) ≤ length sig + 30
signature_size sig = omega (arith, length-append hss_algorithm (signature_element sig), length_element_le 0x30 (element 0x06 hss_lms), length_element_le 0x06 hss_lms, hss_size, length_element_le 0x03 (0 ∷ sig))

-- the octets of a proof's signature
abbrev pub signature_in : Proof → List ℕ
signature_in variant.RaVerified = []
signature_in (variant.Signature sig) = sig

proof_size : (proof : Proof) → length (proof_octets proof) ≤ length (signature_in proof) + 36
proof_size variant.RaVerified = omega (arith, length_element_le 0x80 [])
proof_size (variant.Signature sig) = omega (arith, length_element_le 0xA1 (hss_algorithm ++ signature_element sig), signature_size sig)

-- What is written around a request is at most so long.
pub around_size : (request : List ℕ) (proof : Proof) → length (around_octets request proof) ≤ length request + length (signature_in proof) + 48
around_size request proof =
    omega (arith, length_element_le 0x30 (element 0x30 (request ++ proof_octets proof)), length_element_le 0x30 (request ++ proof_octets proof), length-append request (proof_octets proof), proof_size proof)

-- What is written for a wish is at most so long.
pub crmf_size : (w : CrmfWish) → length (crmf_octets w) ≤ length w.subject + length w.spki + length w.exts + length w.issuer + length (signature_in w.proof) + 140
crmf_size w =
    omega (arith, length_element_le 0x30 (element 0x30 (element 0x30 (request_octets w) ++ proof_octets w.proof)), length_element_le 0x30 (element 0x30 (request_octets w) ++ proof_octets w.proof), length-append (element 0x30 (request_octets w)) (proof_octets w.proof), length_element_le 0x30 (request_octets w), request_size w, proof_size w.proof)

request_id_size : length extension_request_id ≤ 9
unfolding extension_request_id
request_id_size = omega arith

asked_size : (exts : List ℕ) → length (asked_octets exts) ≤ length exts + 33
asked_size [] = omega arith
asked_size (b ∷ more) =
    omega (arith, length_element_le 0x30 (element 0x06 extension_request_id ++ element 0x31 (element 0x30 (b ∷ more))), length-append (element 0x06 extension_request_id) (element 0x31 (element 0x30 (b ∷ more))), length_element_le 0x06 extension_request_id, request_id_size, length_element_le 0x31 (element 0x30 (b ∷ more)), length_element_le 0x30 (b ∷ more))

pub info_size : (w : CrmfWish) → length (info_octets w) ≤ length w.subject + length w.spki + length w.exts + 60
info_size w =
    omega (arith, length_element_le 0x30 (element 0x02 (0 ∷ []) ++ (w.subject ++ (w.spki ++ element 0xA0 (asked_octets w.exts)))), length-append (element 0x02 (0 ∷ [])) (w.subject ++ (w.spki ++ element 0xA0 (asked_octets w.exts))), length_element_le 0x02 (0 ∷ []), length-append w.subject (w.spki ++ element 0xA0 (asked_octets w.exts)), length-append w.spki (element 0xA0 (asked_octets w.exts)), length_element_le 0xA0 (asked_octets w.exts), asked_size w.exts)

pub p10_size : (info sig : List ℕ) → length (p10_octets info sig) ≤ length info + length sig + 40
p10_size info sig = omega (arith, length_element_le 0x30 (info ++ (hss_algorithm ++ signature_element sig)), length-append info (hss_algorithm ++ signature_element sig), signature_size sig)
