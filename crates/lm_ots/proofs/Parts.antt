-- Parts that are taken in, or written, one behind the other.
use Rattle.std.proofs.Common.{◌≡◌, ℕ, ◌+◌, List, [], ◌++◌, length, take, refl, sym, ◌∙◌, ap, subst, arith, add-one, append_assoc, append-nil, length-append}
use Rattle.std.proofs.lemmas.List.{take_at, take-take}
use Rattle.sha2.specs.declared.Sha256.{Sha256}
use Rattle.sha2.specs.Hashers.{Holds256}
use Rattle.std.specs.Int.{w32, to_be_bytes}
use Rattle.lms_params.specs.Parameters.{OtsRow}
use Rattle.lm_ots.specs.Chains.{joined}
use Rattle.lm_ots.specs.Signatures.{randomizer, signed_octets, signed_value, ots_signature}

-- one part more
pub joined-next : (f : ℕ → List ℕ) (n : ℕ) → joined f (n + 1) ≡ joined f n ++ f n
unfolding joined
joined-next f n = rw add-one refl

-- no part
pub joined-none : (f : ℕ → List ℕ) → joined f 0 ≡ []
unfolding joined
joined-none f = refl

-- a hasher before the first part
pub held_none : (hasher : Sha256) (f : ℕ → List ℕ) (front : List ℕ) → Holds256 hasher front → Holds256 hasher (front ++ joined f 0)
held_none hasher f front h =
    subst (λ (m : List ℕ). Holds256 hasher m) (sym (append-nil front) ∙ ap (λ (l : List ℕ). front ++ l) (sym (joined-none f))) h

-- a hasher takes in one part more
pub held_more : (old new : Sha256) (f : ℕ → List ℕ) (front part : List ℕ) (n : ℕ)
    → ((m : List ℕ) → Holds256 old m → Holds256 new (m ++ part)) → part ≡ f n
    → Holds256 old (front ++ joined f n) → Holds256 new (front ++ joined f (n + 1))
held_more old new f front part n takes is h =
    subst (λ (m : List ℕ). Holds256 new m)
    (append_assoc front (joined f n) part ∙ ap (λ (l : List ℕ). front ++ l) (ap (λ (l : List ℕ). joined f n ++ l) is ∙ sym (joined-next f n)))
    (takes (front ++ joined f n) h)

-- octets before the first part is written
pub written_none : (f : ℕ → List ℕ) (front : List ℕ) → front ≡ front ++ joined f 0
written_none f front = sym (ap (λ (l : List ℕ). front ++ l) (joined-none f) ∙ append-nil front)

-- octets behind which one part more is written
pub written_more : (f : ℕ → List ℕ) (front old new part : List ℕ) (n : ℕ)
    → new ≡ old ++ part → part ≡ f n → old ≡ front ++ joined f n → new ≡ front ++ joined f (n + 1)
written_more f front old new part n appended is before =
    appended ∙ ap (λ (l : List ℕ). l ++ part) before ∙ append_assoc front (joined f n) part
    ∙ ap (λ (l : List ℕ). front ++ l) (ap (λ (l : List ℕ). joined f n ++ l) is ∙ sym (joined-next f n))

-- what stands before the parts is a beginning of each longer list
pub take_kept : (out mid new more : List ℕ) → mid ≡ out ++ more → take (length mid) new ≡ mid → take (length out) new ≡ out
take_kept out mid new more e kept =
    sym (take-take (length out) (length mid) new (omega (arith, ap length e, length-append out more)))
    ∙ ap (take (length out)) (kept ∙ e) ∙ take_at out more (length out) refl

-- a signature is written in three parts
pub signature_written : (row : OtsRow) (code : ℕ) (seed id : List ℕ) (q : ℕ) (text : List ℕ) (out kind c octets first second third : List ℕ)
    → first ≡ out ++ kind → second ≡ first ++ c → third ≡ second ++ joined (signed_value row seed id q octets) row.p
    → kind ≡ to_be_bytes w32 code → c ≡ randomizer seed id q → octets ≡ signed_octets row id q c text
    → third ≡ out ++ ots_signature row code seed id q text
unfolding ots_signature
signature_written row code seed id q text out kind c octets first second third one two three is_kind is_c is_octets =
    let values = λ (o : List ℕ). joined (signed_value row seed id q o) row.p in
    three ∙ ap (λ (l : List ℕ). l ++ values octets) (two ∙ ap (λ (l : List ℕ). l ++ c) one)
    ∙ ap (λ (l : List ℕ). l ++ values octets) (append_assoc out kind c) ∙ append_assoc out (kind ++ c) (values octets)
    ∙ ap (λ (o : List ℕ). out ++ (kind ++ c ++ values o)) is_octets
    ∙ ap (λ (r : List ℕ). out ++ (kind ++ r ++ values (signed_octets row id q r text))) is_c
    ∙ ap (λ (k : List ℕ). out ++ (k ++ randomizer seed id q ++ values (signed_octets row id q (randomizer seed id q) text))) is_kind
