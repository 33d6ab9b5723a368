-- The chains of a signature, run on to their ends, are those of the private key.
use Rattle.std.proofs.Common.{◌≡◌, ℕ, zero, suc, ◌+◌, ◌-◌, ◌*◌, ◌^◌, ◌<◌, ◌≤◌, List, [], ◌++◌, length, take, drop, refl, sym, ◌∙◌, ap, ap₂, arith, inl, inr, true, add-zero, zero-add, append-nil, length-append, length-drop}
use Rattle.std.specs.Prelude.{Some, None, ◌&&◌, option_and_then, if◌then◌else◌}
use Rattle.std.proofs.lemmas.Bool.{cases_lt, eq-eqb}
use Rattle.std.proofs.lemmas.List.{take_at, drop_at, drop-drop, take-append-le, drop-append-le}
use Rattle.std.proofs.lemmas.Nat.{and_le_l, from_be_bytes-to_be_bytes_4}
use Rattle.sha2.proofs.Facts256.{length-sha256}
use Rattle.lms_params.specs.Parameters.{OtsRow, ots_row}
use Rattle.lms_params.specs.Digits.{coef_of}
use Rattle.lm_ots.specs.Chains.{joined, step, steps, chain, secret, chain_end, ends_hash, ots_key}
use Rattle.lm_ots.specs.Signatures.{randomizer, signed_octets, signed_value, ots_signature, recovered_end, candidate_of, candidate_in, candidate_if, has_form, c_of, y_of}

-- m steps and then n steps are m + n steps
steps-steps : (id : List ℕ) (q i a m n : ℕ) (x : List ℕ) → steps id q i (a + m) n (steps id q i a m x) ≡ steps id q i a (m + n) x
unfolding steps
steps-steps id q i a zero n x = ap₂ (λ (u v : ℕ). steps id q i u v x) (add-zero a) (sym (zero-add n))
steps-steps id q i a (suc m) n x =
    let moved : a + suc m ≡ a + 1 + m = omega arith in
    let more : suc (m + n) ≡ suc m + n = omega arith in
    ap (λ (u : ℕ). steps id q i u n (steps id q i (a + 1) m (step id q i a x))) moved
    ∙ steps-steps id q i (a + 1) m n (step id q i a x) ∙ ap (λ (u : ℕ). steps id q i a u x) more

-- a chain to place b and then to place d is the chain to place d
pub chain-chain : (id : List ℕ) (q i b d : ℕ) (x : List ℕ) → b ≤ d → chain id q i b d (chain id q i 0 b x) ≡ chain id q i 0 d x
chain-chain id q i b d x h =
    let from : b ≡ 0 + (b - 0) = omega arith in
    let all : b - 0 + (d - b) ≡ d - 0 = omega arith in
    ap (λ (u : ℕ). steps id q i u (d - b) (steps id q i 0 (b - 0) x)) from
    ∙ steps-steps id q i 0 (b - 0) (d - b) x ∙ ap (λ (u : ℕ). steps id q i 0 u x) all

-- a digit is at most the greatest one
pub coef-le : (s : List ℕ) (i w : ℕ) → coef_of s i w ≤ 2 ^ w - 1
coef-le s i w = and_le_l _ _

-- a hash has 32 octets
pub length-step : (id : List ℕ) (q i j : ℕ) (x : List ℕ) → length (step id q i j x) ≡ 32
unfolding step
length-step id q i j x = length-sha256 _

length-steps : (id : List ℕ) (q i a n : ℕ) (x : List ℕ) → length x ≡ 32 → length (steps id q i a n x) ≡ 32
unfolding steps
length-steps id q i a zero x h = h
length-steps id q i a (suc n) x h = length-steps id q i (a + 1) n (step id q i a x) (length-step id q i a x)

-- the same parts make the same whole
pub joined-same : (f g : ℕ → List ℕ) (n : ℕ) → ((i : ℕ) → i < n → f i ≡ g i) → joined f n ≡ joined g n
unfolding joined
joined-same f g zero same = refl
joined-same f g (suc n) same = ap₂ (λ (a b : List ℕ). a ++ b) (joined-same f g n (λ i h. same i (omega arith))) (same n (omega arith))

-- n parts of 32 octets
pub length-joined : (f : ℕ → List ℕ) (n : ℕ) → ((i : ℕ) → length (f i) ≡ 32) → length (joined f n) ≡ 32 * n
unfolding joined
length-joined f zero each = refl
length-joined f (suc n) each =
    let before = length-joined f n each in
    let last = each n in
    omega (arith, length-append (joined f n) (f n))

-- part i of n parts of 32 octets
part-joined : (f : ℕ → List ℕ) (i n : ℕ) → ((j : ℕ) → length (f j) ≡ 32) → i < n → take 32 (drop (32 * i) (joined f n)) ≡ f i
unfolding joined
part-joined f i zero each h = absurd (omega arith)
part-joined f i (suc n) each h =
    let size = length-joined f n each in
    elim (cases_lt i n) [
      | inl before ↦
          ap (take 32) (drop-append-le (32 * i) (joined f n) (f n) (omega arith))
          ∙ take-append-le 32 (drop (32 * i) (joined f n)) (f n) (omega (arith, length-drop (32 * i) (joined f n)))
          ∙ part-joined f i n each before
      | inr last ↦
          let same : i ≡ n = omega arith in
          let whole = each n in
          ap (λ (k : ℕ). take 32 (drop (32 * k) (joined f n ++ f n))) same
          ∙ ap (take 32) (drop_at (joined f n) (f n) (32 * n) size)
          ∙ ap (take 32) (sym (append-nil (f n))) ∙ take_at (f n) [] 32 whole ∙ ap f (sym same)
    ]

length-signed_value : (row : OtsRow) (seed id : List ℕ) (q : ℕ) (octets : List ℕ) (i : ℕ) → length (signed_value row seed id q octets i) ≡ 32
unfolding signed_value
length-signed_value row seed id q octets i = length-steps id q i 0 _ _ (length-step id q i 255 seed)

length-randomizer : (seed id : List ℕ) (q : ℕ) → length (randomizer seed id q) ≡ 32
unfolding randomizer
length-randomizer seed id q = length-step id q 0xfffd 255 seed

-- the octets of a signature
pub length-ots_signature : (row : OtsRow) (code : ℕ) (seed id : List ℕ) (q : ℕ) (text : List ℕ)
    → length (ots_signature row code seed id q text) ≡ 36 + 32 * row.p
unfolding ots_signature
length-ots_signature row code seed id q text =
    let c = randomizer seed id q in
    let values = signed_value row seed id q (signed_octets row id q c text) in
    let size = length-joined values row.p (length-signed_value row seed id q (signed_octets row id q c text)) in
    let size_c = length-randomizer seed id q in
    omega (arith, length-append c (joined values row.p))

-- C of a signature
c_of-ots_signature : (row : OtsRow) (code : ℕ) (seed id : List ℕ) (q : ℕ) (text : List ℕ)
    → c_of (ots_signature row code seed id q text) ≡ randomizer seed id q
unfolding ots_signature
c_of-ots_signature row code seed id q text = take_at (randomizer seed id q) _ 32 (length-randomizer seed id q)

-- the values of a signature
y_of-ots_signature : (row : OtsRow) (code : ℕ) (seed id : List ℕ) (q : ℕ) (text : List ℕ) (i : ℕ) → i < row.p
    → y_of (ots_signature row code seed id q text) i ≡ signed_value row seed id q (signed_octets row id q (randomizer seed id q) text) i
unfolding ots_signature
y_of-ots_signature row code seed id q text i h =
    let c = randomizer seed id q in
    let values = signed_value row seed id q (signed_octets row id q c text) in
    ap (take 32) (sym (drop-drop (32 * i) 36 (ots_signature row code seed id q text)))
    ∙ ap (λ (l : List ℕ). take 32 (drop (32 * i) l)) (drop_at c (joined values row.p) 32 (length-randomizer seed id q))
    ∙ part-joined values i row.p (length-signed_value row seed id q (signed_octets row id q c text)) h

-- a signature has the form of its row
pub has_form-ots_signature : (row : OtsRow) (code : ℕ) (seed id : List ℕ) (q : ℕ) (text : List ℕ) → code < 2 ^ 32
    → has_form row code (ots_signature row code seed id q text) ≡ true
unfolding ots_signature
has_form-ots_signature row code seed id q text small =
    ap₂ (λ a b. a && b) (eq-eqb _ _ (length-ots_signature row code seed id q text)) (eq-eqb _ _ (from_be_bytes-to_be_bytes_4 code small))

-- the candidate of a signature is the public hash of its key
pub candidate_of-ots_signature : (row : OtsRow) (code : ℕ) (seed id : List ℕ) (q : ℕ) (text : List ℕ)
    → candidate_of row id q text (ots_signature row code seed id q text) ≡ ots_key row seed id q
unfolding candidate_of ots_key recovered_end chain_end signed_value
candidate_of-ots_signature row code seed id q text =
    let sig = ots_signature row code seed id q text in
    let octets = signed_octets row id q (randomizer seed id q) text in
    let same_octets = ap (λ (c : List ℕ). signed_octets row id q c text) (c_of-ots_signature row code seed id q text) in
    ap (λ (o : List ℕ). ends_hash id q (joined (recovered_end row id q o sig) row.p)) same_octets
    ∙ ap (ends_hash id q) (joined-same (recovered_end row id q octets sig) (chain_end row seed id q) row.p
    (λ i h. ap (chain id q i (coef_of octets i row.w) (2 ^ row.w - 1)) (y_of-ots_signature row code seed id q text i h)
    ∙ chain-chain id q i (coef_of octets i row.w) (2 ^ row.w - 1) (secret seed id q i) (coef-le octets i row.w)))

-- .. under its typecode too
pub candidate_if-ots_signature : (code : ℕ) (row : OtsRow) (seed id text : List ℕ) (q : ℕ) → code < 2 ^ 32 → ots_row code ≡ Some row
    → candidate_if code id q text (ots_signature row code seed id q text) ≡ Some (ots_key row seed id q)
candidate_if-ots_signature code row seed id text q small known =
    let sig = ots_signature row code seed id q text in
    ap (option_and_then (λ (r : OtsRow). candidate_in r code id q text sig)) known
    ∙ ap (λ b. if b then Some (candidate_of row id q text sig) else None) (has_form-ots_signature row code seed id q text small)
    ∙ ap Some (candidate_of-ots_signature row code seed id q text)
