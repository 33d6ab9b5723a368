-- Octets are the same exactly where their exclusive or is 0.
use Rattle.std.proofs.Common.{◌≡◌, ◌↔◌, ℕ, ◌<◌, ◌≤◌, ◌+◌, inl, inr, List, length, get_or, bit_or, bit_xor, sym, ap, subst, ◌∙◌, arith}
use Rattle.std.proofs.lemmas.Bool.{cases_order}
use Rattle.std.proofs.lemmas.Grind.{same_number_lists}
use Rattle.std.proofs.lemmas.Nat.{le_or_l, le_or_r}
use Rattle.std.specs.Int.{bit_at}
use Rattle.std.proofs.lemmas.Nat.Bits.{bit_at-zero, bit_at_xor, bit_at-lt, same_from_bits}

pub xor_zero : (a b : ℕ) → bit_xor a b ≡ 0 → a ≡ b
xor_zero a b e =
    same_from_bits a b (λ i.
    let none : bit_at (bit_xor a b) i ≡ 0 = ap (λ (x : ℕ). bit_at x i) e ∙ bit_at-zero i in
    omega (arith, none, bit_at_xor a b i, bit_at-lt a i, bit_at-lt b i))

pub xor_same : (a b : ℕ) → a ≡ b → bit_xor a b ≡ 0
xor_same a b e =
    same_from_bits (bit_xor a b) 0 (λ i.
    let both : bit_at a i ≡ bit_at b i = ap (λ (x : ℕ). bit_at x i) e in
    omega (arith, both, bit_at_xor a b i, bit_at-zero i))

pub or_zero_left : (a b : ℕ) → bit_or a b ≡ 0 → a ≡ 0
or_zero_left a b e = omega (arith, le_or_l a b, e)

pub or_zero_right : (a b : ℕ) → bit_or a b ≡ 0 → b ≡ 0
or_zero_right a b e = omega (arith, le_or_r a b, e)

pub or_zeros : (a b : ℕ) → a ≡ 0 → b ≡ 0 → bit_or a b ≡ 0
or_zeros a b e f = ap (λ (x : ℕ). bit_or x b) e ∙ ap (bit_or 0) f

-- what is combined goes on to be 0 exactly where the octets are the same
pub step_same : (xs ys : List ℕ) (i all : ℕ) → (all ≡ 0 → (k : ℕ) → k < i → get_or ys k 0 ≡ get_or xs k 0) → bit_or all (bit_xor (get_or xs i 0) (get_or ys i 0)) ≡ 0 → (k : ℕ) → k < i + 1 → get_or ys k 0 ≡ get_or xs k 0
step_same xs ys i all before e k h =
    elim (cases_order k i) [
      | inr (inl lt) ↦ before (or_zero_left all (bit_xor (get_or xs i 0) (get_or ys i 0)) e) k lt
      | inl is ↦ sym (subst (λ (j : ℕ). get_or xs j 0 ≡ get_or ys j 0) (sym is) (xor_zero (get_or xs i 0) (get_or ys i 0) (or_zero_right all (bit_xor (get_or xs i 0) (get_or ys i 0)) e)))
      | inr (inr gt) ↦ absurd (omega arith)
    ]

pub step_none : (xs ys : List ℕ) (i all : ℕ) → (((k : ℕ) → k < i → get_or ys k 0 ≡ get_or xs k 0) → all ≡ 0) → ((k : ℕ) → k < i + 1 → get_or ys k 0 ≡ get_or xs k 0) → bit_or all (bit_xor (get_or xs i 0) (get_or ys i 0)) ≡ 0
step_none xs ys i all before each =
    or_zeros all (bit_xor (get_or xs i 0) (get_or ys i 0)) (before (λ k h. each k (omega arith))) (xor_same (get_or xs i 0) (get_or ys i 0) (sym (each i (omega arith))))

-- 32 octets are the same where each of them is
pub all_same : (xs ys : List ℕ) (i all : ℕ) → length xs ≡ 32 → length ys ≡ 32 → 32 ≤ i → (all ≡ 0 → (k : ℕ) → k < i → get_or ys k 0 ≡ get_or xs k 0) → (((k : ℕ) → k < i → get_or ys k 0 ≡ get_or xs k 0) → all ≡ 0) → (all ≡ 0) ↔ (ys ≡ xs)
all_same xs ys i all m n past same none = (
  λ z. same_number_lists ys xs (n ∙ sym m) (λ k h. same z k (omega arith)),
  λ e. none (λ k h. ap (λ (l : List ℕ). get_or l k 0) e),
)
