-- Proofs of possession are read exactly where they are spelled.
use Rattle.std.proofs.Common.{◌≡◌, ◌≢◌, ℕ, ◌%◌, ◌^◌, ◌<◌, ◌++◌, ◌||◌, Bool, true, false, cond, eqb, IsTrue, List, [], ◌∷◌, length, Option, Some, None, Result, Ok, Err, append-nil, eqb-true, eq-eqb, refl, sym, ap, subst, ◌∙◌, arith}
use Rattle.der_base.specs.Element.{element, IsElement}
use Rattle.der_base.specs.Reading.{Part, part, element_at}
use Rattle.der_base.specs.declared.fault.DerFault.{DerFault}
use Rattle.der_base.proofs.ElementLemmas.{IsTaken, element_takes, element_reads}
use Rattle.asn_fields.specs.Fields.{◌>>=◌, ok_of, optional_with}
use Rattle.asn_fields.specs.Forms.{IsRead, IsField, optional_spelling, FitsOptional}
use Rattle.asn_fields.proofs.FieldLemmas.{bound, passed, some_same, none_some, optional_field}
use Rattle.asn_types.specs.Algorithm.{FitsAlgorithm, algorithm_content, algorithm_at}
use Rattle.asn_types.specs.Template.{IsAnything, same, anything_at}
use Rattle.asn_types.proofs.AlgorithmLemmas.{algorithm_is_read}
use Rattle.asn_types.proofs.OptionalLemmas.{IsNotAt}
use Rattle.asn_types.proofs.ValueLemmas.{ok_is}
use Rattle.asn_parts.specs.Parts.{tagged, FitsTagged, required_with}
use Rattle.asn_parts.proofs.PartLemmas.{anything_is_read, required_front, empty_of, field_not}
use Rattle.asn_fields.specs.Forms.{IsFront}
use Rattle.req_forms.specs.Possession.{SigningForm, signing_content, FitsSigning, ProofForm, absent, ra_verified, signature, key_encipherment, key_agreement, proof_spelling, FitsProof, signature_element, sole_signature_at, signing_at, proof_at, is_proof_tag, proof_front_at}
use Rattle.req_forms.proofs.FieldLemmas.{signature_is_read}

pub alg_front : IsFront (required_with algorithm_at 0x30) (tagged 0x30 algorithm_content) (FitsTagged algorithm_content FitsAlgorithm)
alg_front = required_front algorithm_at 0x30 algorithm_content FitsAlgorithm (omega arith) algorithm_is_read

input_field : IsField (optional_with anything_at 0xA0) 0xA0 same IsAnything
input_field = optional_field anything_at 0xA0 same IsAnything (omega arith) anything_is_read

signing_takes : (bytes : List ℕ) (s : SigningForm) → signing_at bytes ≡ Some s → FitsSigning s × (bytes ≡ signing_content s)
unfolding signing_at
signing_takes bytes s e =
    bound (FitsSigning s × (bytes ≡ signing_content s)) (optional_with anything_at 0xA0 bytes) _ s e (λ i r0 e0.
    bound (FitsSigning s × (bytes ≡ signing_content s)) (required_with algorithm_at 0x30 i.1) _ s e0 (λ a r1 e1.
    bound (FitsSigning s × (bytes ≡ signing_content s)) (sole_signature_at a.1) _ s e1 (λ sig r2 e2.
    let f0 = input_field.takes bytes i.0 i.1 r0 in
    let f1 = alg_front.takes i.1 a.0 a.1 r1 in
    let f2 = signature_is_read.takes a.1 sig r2 in
    subst (λ (x : SigningForm). FitsSigning x × (bytes ≡ signing_content x)) (some_same (record { input = i.0; alg = a.0; sig = sig }) s e2) (
      record { input = f0.0; alg = f1.0; sig = f2.0 },
      f0.1 ∙ ap (λ (l : List ℕ). optional_spelling 0xA0 same i.0 ++ l) (f1.1 ∙ ap (λ (l : List ℕ). element 0x30 (algorithm_content a.0) ++ l) f2.1),
    ))))

not_input : (a rest : List ℕ) → IsNotAt 0xA0 (element 0x30 a ++ rest)
unfolding element
not_input a rest = refl

signing_again : (s : SigningForm) → FitsSigning s → signing_at (signing_content s) ≡ Some s
unfolding signing_at
signing_again s fits =
    rw (
      field_not anything_at 0xA0 same IsAnything (omega arith) anything_is_read s.input (element 0x30 (algorithm_content s.alg) ++ signature_element s.sig) fits.input (not_input (algorithm_content s.alg) (signature_element s.sig)),
      alg_front.again s.alg (signature_element s.sig) fits.alg,
      signature_is_read.again s.sig fits.sig,
    ) refl

signing_is_read : IsRead signing_at signing_content FitsSigning
signing_is_read = record { takes = signing_takes; again = signing_again }

-- what a proof's element says
pub record IsProofElement (p : Part) (proof : ProofForm) : Type 0 where
  pub fits : FitsProof proof
  pub spelled : element p.tag p.content ≡ proof_spelling proof

proof_made : (p : Part) (a b : ProofForm) → FitsProof a → element p.tag p.content ≡ proof_spelling a → a ≡ b → IsProofElement p b
proof_made p a b fits spelled e = subst (λ (x : ProofForm). IsProofElement p x) e (record { fits = fits; spelled = spelled })

spelled_by : (p : Part) (tag : ℕ) (octets : List ℕ) → p.tag ≡ tag → p.content ≡ octets → element p.tag p.content ≡ element tag octets
spelled_by p tag octets t c = ap (λ (n : ℕ). element n p.content) t ∙ ap (element tag) c

by_agreement : (p : Part) (proof : ProofForm) (b : Bool) → eqb p.tag 0xA3 ≡ b → length p.content < 2 ^ 32 → cond b (Some (key_agreement p.content)) None ≡ Some proof → IsProofElement p proof
by_agreement p proof true t counted e = proof_made p (key_agreement p.content) proof counted (spelled_by p 0xA3 p.content (eqb-true p.tag 0xA3 t) refl) (some_same _ proof e)
by_agreement p proof false t counted e = absurd (none_some proof e)

by_encipherment : (p : Part) (proof : ProofForm) (b : Bool) → eqb p.tag 0xA2 ≡ b → length p.content < 2 ^ 32 → cond b (Some (key_encipherment p.content)) (cond (eqb p.tag 0xA3) (Some (key_agreement p.content)) None) ≡ Some proof → IsProofElement p proof
by_encipherment p proof true t counted e = proof_made p (key_encipherment p.content) proof counted (spelled_by p 0xA2 p.content (eqb-true p.tag 0xA2 t) refl) (some_same _ proof e)
by_encipherment p proof false t counted e = by_agreement p proof _ refl counted e

by_signature : (p : Part) (proof : ProofForm) (b : Bool) → eqb p.tag 0xA1 ≡ b → length p.content < 2 ^ 32 → cond b (signing_at p.content >>= λ s. Some (signature s)) (cond (eqb p.tag 0xA2) (Some (key_encipherment p.content)) (cond (eqb p.tag 0xA3) (Some (key_agreement p.content)) None)) ≡ Some proof → IsProofElement p proof
by_signature p proof true t counted e =
    bound (IsProofElement p proof) (signing_at p.content) (λ (s : SigningForm). Some (signature s)) proof e (λ s got last.
    let w = signing_takes p.content s got in
    proof_made p (signature s) proof (w.0, subst (λ (l : List ℕ). length l < 2 ^ 32) w.1 counted) (spelled_by p 0xA1 (signing_content s) (eqb-true p.tag 0xA1 t) w.1) (some_same _ proof last))
by_signature p proof false t counted e = by_encipherment p proof _ refl counted e

by_ra : (p : Part) (proof : ProofForm) (b : Bool) → eqb p.tag 0x80 ≡ b → length p.content < 2 ^ 32 → cond b (cond (eqb (length p.content) 0) (Some ra_verified) None) (cond (eqb p.tag 0xA1) (signing_at p.content >>= λ s. Some (signature s)) (cond (eqb p.tag 0xA2) (Some (key_encipherment p.content)) (cond (eqb p.tag 0xA3) (Some (key_agreement p.content)) None))) ≡ Some proof → IsProofElement p proof
by_ra p proof true t counted e =
    passed (IsProofElement p proof) (eqb (length p.content) 0) ra_verified proof e (λ none same.
    proof_made p ra_verified proof tt (spelled_by p 0x80 [] (eqb-true p.tag 0x80 t) (empty_of p.content none)) same)
by_ra p proof false t counted e = by_signature p proof _ refl counted e

proof_takes : (p : Part) (proof : ProofForm) → length p.content < 2 ^ 32 → proof_at p ≡ Some proof → IsProofElement p proof
unfolding proof_at
proof_takes p proof counted e = by_ra p proof _ refl counted e

-- The octets are none, or the first one is no tag of a proof.
abbrev pub IsNoProof : List ℕ → Type 0
IsNoProof [] = Unit {0}
IsNoProof (first ∷ rest) = is_proof_tag first ≡ false

front_made : (bytes : List ℕ) (a proof : ProofForm) (more rest : List ℕ) → FitsProof a → bytes ≡ proof_spelling a ++ more → ◌≡◌ {A = ProofForm × List ℕ} (a, more) (proof, rest) → FitsProof proof × (bytes ≡ proof_spelling proof ++ rest)
front_made bytes a proof more rest fits spelled e =
    subst (λ (x : ProofForm × List ℕ). FitsProof x.0 × (bytes ≡ proof_spelling x.0 ++ x.1)) e (fits, spelled)

abbrev with_rest : List ℕ → ProofForm → Option (ProofForm × List ℕ)
with_rest rest p = Some (p, rest)

abbrev read_proof : Part × List ℕ → Option (ProofForm × List ℕ)
read_proof f = proof_at f.0 >>= with_rest f.1

front_by : (bytes : List ℕ) (proof : ProofForm) (rest : List ℕ) (b : Bool) → cond b (ok_of (element_at bytes) >>= read_proof) (with_rest bytes absent) ≡ with_rest rest proof → FitsProof proof × (bytes ≡ proof_spelling proof ++ rest)
front_by bytes proof rest true e =
    bound (FitsProof proof × (bytes ≡ proof_spelling proof ++ rest)) (ok_of (element_at bytes)) read_proof (proof, rest) e (λ f read e1.
    bound (FitsProof proof × (bytes ≡ proof_spelling proof ++ rest)) (proof_at f.0) (with_rest f.1) (proof, rest) e1 (λ p got last.
    let t = element_takes bytes f.0 f.1 (ok_is (element_at bytes) f read) in
    let w = proof_takes f.0 p t.element_is.counted got in
    front_made bytes p proof f.1 rest w.fits (t.parts ∙ ap (λ (l : List ℕ). l ++ f.1) (t.element_is.spelled ∙ w.spelled)) (some_same (p, f.1) (proof, rest) last)))
front_by bytes proof rest false e = front_made bytes absent proof bytes rest tt refl (some_same (absent, bytes) (proof, rest) e)

abbrev no_octets : List ℕ
no_octets = []

pub front_takes : (bytes : List ℕ) (proof : ProofForm) (rest : List ℕ) → proof_front_at bytes ≡ Some (proof, rest) → FitsProof proof × (bytes ≡ proof_spelling proof ++ rest)
unfolding proof_front_at
front_takes [] proof rest e = front_made [] absent proof [] rest tt refl (some_same (absent, no_octets) (proof, rest) e)
front_takes (first ∷ more) proof rest e = front_by (first ∷ more) proof rest (is_proof_tag first) e

front_absent : (rest : List ℕ) → IsNoProof rest → proof_front_at rest ≡ Some (absent, rest)
unfolding proof_front_at
front_absent [] h = refl
front_absent (first ∷ rest) h = rw h refl

-- a proof's tag at the front
opened : (tag : ℕ) (octets rest : List ℕ) (proof : ProofForm) → is_proof_tag tag ≡ true → proof_front_at (element tag octets ++ rest) ≡ (ok_of (element_at (element tag octets ++ rest)) >>= λ f. (proof_at f.0 >>= λ p. Some (p, f.1)))
unfolding proof_front_at element
opened tag octets rest proof there = rw there refl

-- an element of a proof at the front
front_there : (tag : ℕ) (octets rest : List ℕ) (proof : ProofForm) → is_proof_tag tag ≡ true → tag % 32 ≢ 31 → length octets < 2 ^ 32 → proof_at (part tag octets) ≡ Some proof → proof_front_at (element tag octets ++ rest) ≡ Some (proof, rest)
front_there tag octets rest proof there low counted got =
    let is : IsElement (element tag octets) tag octets = record { low_tag = low; counted = counted; spelled = refl } in
    let read : element_at (element tag octets ++ rest) ≡ Ok (part tag octets, rest) = element_reads (element tag octets ++ rest) (element tag octets) octets rest tag is refl in
    opened tag octets rest proof there ∙ ap (λ (r : Result (Part × List ℕ) DerFault). ok_of r >>= λ f. (proof_at f.0 >>= λ p. Some (p, f.1))) read ∙ ap (λ (o : Option ProofForm). o >>= λ p. Some (p, rest)) got

ra_there : proof_at (part 0x80 []) ≡ Some ra_verified
unfolding proof_at
ra_there = refl

signature_there : (s : SigningForm) → FitsSigning s → proof_at (part 0xA1 (signing_content s)) ≡ Some (signature s)
unfolding proof_at
signature_there s fits = ap (λ (o : Option SigningForm). o >>= λ x. Some (signature x)) (signing_again s fits)

encipherment_there : (octets : List ℕ) → proof_at (part 0xA2 octets) ≡ Some (key_encipherment octets)
unfolding proof_at
encipherment_there octets = refl

agreement_there : (octets : List ℕ) → proof_at (part 0xA3 octets) ≡ Some (key_agreement octets)
unfolding proof_at
agreement_there octets = refl

pub front_again : (proof : ProofForm) (rest : List ℕ) → FitsProof proof → IsNoProof rest → proof_front_at (proof_spelling proof ++ rest) ≡ Some (proof, rest)
front_again absent rest fits h = front_absent rest h
front_again ra_verified rest fits h = front_there 0x80 [] rest ra_verified refl (omega arith) (omega arith) ra_there
front_again (signature s) rest fits h = front_there 0xA1 (signing_content s) rest (signature s) refl (omega arith) fits.1 (signature_there s fits.0)
front_again (key_encipherment octets) rest fits h = front_there 0xA2 octets rest (key_encipherment octets) refl (omega arith) fits (encipherment_there octets)
front_again (key_agreement octets) rest fits h = front_there 0xA3 octets rest (key_agreement octets) refl (omega arith) fits (agreement_there octets)
