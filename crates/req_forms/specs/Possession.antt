-- Proofs of possession (RFC 4211, 4). A signature is looked into; the proofs of keys that do not sign are not.
use Rattle.std.specs.Prelude.{◌≡◌, ℕ, ◌+◌, ◌^◌, ◌<◌, ◌++◌, ◌||◌, ◌==◌, Bool, true, false, if◌then◌else◌, List, [], ◌∷◌, length, Option, Some, None}
use Rattle.std.specs.Option.{option_copied}
use Rattle.der_base.specs.Element.{element}
use Rattle.der_base.specs.Reading.{Part, element_at}
use Rattle.asn_fields.specs.Fields.{◌>>=◌, ok_of, sole_at, optional_with}
use Rattle.asn_fields.specs.Forms.{optional_spelling, FitsOptional}
use Rattle.asn_types.specs.Algorithm.{Algorithm, FitsAlgorithm, algorithm_content, algorithm_of, algorithm_at}
use Rattle.asn_types.specs.Key.{plain_bits_at}
use Rattle.asn_types.specs.Template.{IsAnything, same, anything_at}
use Rattle.asn_parts.specs.Parts.{FitsTagged, required_with}
use Rattle.req_forms.specs.declared.possession.Signing.{Signing}
use Rattle.req_forms.specs.declared.possession.Possession.{Possession}
use Rattle.req_forms.specs.declared.possession.Possession.TheVariants as variant
use Rattle.req_forms.specs.declared.possession.Popo.{Popo}
use Rattle.req_forms.specs.declared.possession.Popo.TheVariants as shown

-- a signature's octets as a BIT STRING with no unused bits
abbrev pub signature_element : List ℕ → List ℕ
signature_element octets = element 0x03 (0 ∷ octets)

abbrev pub FitsSignature : List ℕ → Type 0
FitsSignature octets = length octets + 1 < 2 ^ 32

-- POPOSigningKey: poposkInput [0], which is not looked into, the algorithm, and the signature (RFC 4211, 4.1)
pub record SigningForm : Type 0 where
  pub input : Option (List ℕ)
  pub alg : Algorithm
  pub sig : List ℕ

abbrev pub signing_content : SigningForm → List ℕ
signing_content s = optional_spelling 0xA0 same s.input ++ (element 0x30 (algorithm_content s.alg) ++ signature_element s.sig)

pub record FitsSigning (s : SigningForm) : Type 0 where
  pub input : FitsOptional same IsAnything s.input
  pub alg : FitsTagged algorithm_content FitsAlgorithm s.alg
  pub sig : FitsSignature s.sig

-- a proof of possession, or none: raVerified [0], signature [1], keyEncipherment [2] and keyAgreement [3]
pub data ProofForm : Type 0 where
  absent : ProofForm
  ra_verified : ProofForm
  signature : SigningForm → ProofForm
  key_encipherment : List ℕ → ProofForm
  key_agreement : List ℕ → ProofForm

abbrev pub proof_spelling : ProofForm → List ℕ
proof_spelling absent = []
proof_spelling ra_verified = element 0x80 []
proof_spelling (signature s) = element 0xA1 (signing_content s)
proof_spelling (key_encipherment octets) = element 0xA2 octets
proof_spelling (key_agreement octets) = element 0xA3 octets

abbrev pub FitsProof : ProofForm → Type 0
FitsProof absent = Unit {0}
FitsProof ra_verified = Unit {0}
FitsProof (signature s) = FitsTagged signing_content FitsSigning s
FitsProof (key_encipherment octets) = length octets < 2 ^ 32
FitsProof (key_agreement octets) = length octets < 2 ^ 32

-- what a request shows of its proof: of one that is not looked into, the number of its alternative
pub data PopoForm : Type 0 where
  no_popo : PopoForm
  by_ra : PopoForm
  signed : SigningForm → PopoForm
  another : ℕ → PopoForm

abbrev pub popo_shown : ProofForm → PopoForm
popo_shown absent = no_popo
popo_shown ra_verified = by_ra
popo_shown (signature s) = signed s
popo_shown (key_encipherment octets) = another 2
popo_shown (key_agreement octets) = another 3

-- what was read shows
abbrev pub signing_of : Signing → SigningForm
signing_of s = record { input = option_copied s.input; alg = algorithm_of s.alg; sig = s.sig.now }

abbrev pub proof_of : Possession → ProofForm
proof_of variant.Absent = absent
proof_of variant.RaVerified = ra_verified
proof_of (variant.Signature s) = signature (signing_of s)
proof_of (variant.KeyEncipherment octets) = key_encipherment octets.now
proof_of (variant.KeyAgreement octets) = key_agreement octets.now

abbrev pub popo_of : Popo → PopoForm
popo_of shown.Absent = no_popo
popo_of shown.RaVerified = by_ra
popo_of (shown.Signature input alg sig) = signed (record { input = option_copied input; alg = algorithm_of alg; sig = sig.now })
popo_of (shown.Other alternative) = another alternative

-- what is read: a signature that stands alone
unfoldable pub sole_signature_at : List ℕ → Option (List ℕ)
sole_signature_at bytes = sole_at 0x03 bytes >>= plain_bits_at

unfoldable pub signing_at : List ℕ → Option SigningForm
signing_at bytes = do
  input ← optional_with anything_at 0xA0 bytes
  alg ← required_with algorithm_at 0x30 input.1
  sig ← sole_signature_at alg.1
  Some (record { input = input.0; alg = alg.0; sig = sig })

-- an element that is a proof
unfoldable pub proof_at : Part → Option ProofForm
proof_at p =
    if p.tag == 0x80 then (if length p.content == 0 then Some ra_verified else None)
    else (if p.tag == 0xA1 then (signing_at p.content >>= λ s. Some (signature s))
    else (if p.tag == 0xA2 then Some (key_encipherment p.content)
    else (if p.tag == 0xA3 then Some (key_agreement p.content) else None)))

abbrev pub is_proof_tag : ℕ → Bool
is_proof_tag tag = (tag == 0x80) || ((tag == 0xA1) || ((tag == 0xA2) || (tag == 0xA3)))

-- a proof where one stands there, and what follows it
unfoldable pub proof_front_at : List ℕ → Option (ProofForm × List ℕ)
proof_front_at [] = Some (absent, [])
proof_front_at (first ∷ rest) = if is_proof_tag first then (do
  f ← ok_of (element_at (first ∷ rest))
  p ← proof_at f.0
  Some (p, f.1))
    else Some (absent, first ∷ rest)
