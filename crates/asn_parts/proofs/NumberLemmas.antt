-- The octets of a number are an INTEGER's.
use Rattle.std.proofs.Common.{◌≡◌, ℕ, ◌/◌, ◌%◌, ◌^◌, ◌<◌, ◌≤◌, Bool, true, false, cond, IsTrue, List, [], ◌∷◌, length, refl, arith}
use Rattle.std.specs.Prelude.{nat_lt}
use Rattle.std.proofs.lemmas.Bool.Decides.{nat_tests}
use Rattle.der_base.specs.Values.{is_integer}
use Rattle.asn_parts.specs.Number.{octets_of, number_octets}

-- a first octet below 128 that isn't left out
pair_form : (a b : ℕ) (more : List ℕ) → length more ≤ 18 → a < 128 → (a ≡ 0 → 128 ≤ b) → IsTrue (is_integer (a ∷ b ∷ more))
pair_form a b more long low high = grind (arith, nat_tests)

by_test : (P : ℕ → Type 0) (n k a b : ℕ) (t : Bool) → nat_lt n k ≡ t → (n < k → P a) → (k ≤ n → P b) → P (cond t a b)
by_test P n k a b true e low high = low (grind (arith, nat_tests))
by_test P n k a b false e low high = high (grind (arith, nat_tests))

if_less : (P : ℕ → Type 0) (n k a b : ℕ) → (n < k → P a) → (k ≤ n → P b) → P (cond (nat_lt n k) a b)
if_less P n k a b low high = by_test P n k a b (nat_lt n k) refl low high

abbrev HasForm : ℕ → ℕ → Type 0
HasForm n w = IsTrue (is_integer (octets_of w n))

-- 2 octets
form_2 : (n : ℕ) → 2 ^ 7 ≤ n → n < 2 ^ 15 → HasForm n 2
form_2 n low high = pair_form (n / 256 % 256) (n % 256) [] (omega arith) (omega arith) (λ e. omega arith)

-- 3 octets
form_3 : (n : ℕ) → 2 ^ 15 ≤ n → n < 2 ^ 23 → HasForm n 3
form_3 n low high = pair_form (n / 256 / 256 % 256) (n / 256 % 256) ((n % 256) ∷ []) (omega arith) (omega arith) (λ e. omega arith)

-- 4 octets
form_4 : (n : ℕ) → 2 ^ 23 ≤ n → n < 2 ^ 31 → HasForm n 4
form_4 n low high = pair_form (n / 256 / 256 / 256 % 256) (n / 256 / 256 % 256) ((n / 256 % 256) ∷ (n % 256) ∷ []) (omega arith) (omega arith) (λ e. omega arith)

-- 5 octets
form_5 : (n : ℕ) → 2 ^ 31 ≤ n → n < 2 ^ 39 → HasForm n 5
form_5 n low high = pair_form (n / 256 / 256 / 256 / 256 % 256) (n / 256 / 256 / 256 % 256) ((n / 256 / 256 % 256) ∷ (n / 256 % 256) ∷ (n % 256) ∷ []) (omega arith) (omega arith) (λ e. omega arith)

-- 6 octets
form_6 : (n : ℕ) → 2 ^ 39 ≤ n → n < 2 ^ 47 → HasForm n 6
form_6 n low high = pair_form (n / 256 / 256 / 256 / 256 / 256 % 256) (n / 256 / 256 / 256 / 256 % 256) ((n / 256 / 256 / 256 % 256) ∷ (n / 256 / 256 % 256) ∷ (n / 256 % 256) ∷ (n % 256) ∷ []) (omega arith) (omega arith) (λ e. omega arith)

-- 7 octets
form_7 : (n : ℕ) → 2 ^ 47 ≤ n → n < 2 ^ 55 → HasForm n 7
form_7 n low high = pair_form (n / 256 / 256 / 256 / 256 / 256 / 256 % 256) (n / 256 / 256 / 256 / 256 / 256 % 256) ((n / 256 / 256 / 256 / 256 % 256) ∷ (n / 256 / 256 / 256 % 256) ∷ (n / 256 / 256 % 256) ∷ (n / 256 % 256) ∷ (n % 256) ∷ []) (omega arith) (omega arith) (λ e. omega arith)

-- 8 octets
form_8 : (n : ℕ) → 2 ^ 55 ≤ n → n < 2 ^ 63 → HasForm n 8
form_8 n low high = pair_form (n / 256 / 256 / 256 / 256 / 256 / 256 / 256 % 256) (n / 256 / 256 / 256 / 256 / 256 / 256 % 256) ((n / 256 / 256 / 256 / 256 / 256 % 256) ∷ (n / 256 / 256 / 256 / 256 % 256) ∷ (n / 256 / 256 / 256 % 256) ∷ (n / 256 / 256 % 256) ∷ (n / 256 % 256) ∷ (n % 256) ∷ []) (omega arith) (omega arith) (λ e. omega arith)

-- 9 octets
form_9 : (n : ℕ) → 2 ^ 63 ≤ n → n < 2 ^ 64 → HasForm n 9
form_9 n low high = pair_form (n / 256 / 256 / 256 / 256 / 256 / 256 / 256 / 256 % 256) (n / 256 / 256 / 256 / 256 / 256 / 256 / 256 % 256) ((n / 256 / 256 / 256 / 256 / 256 / 256 % 256) ∷ (n / 256 / 256 / 256 / 256 / 256 % 256) ∷ (n / 256 / 256 / 256 / 256 % 256) ∷ (n / 256 / 256 / 256 % 256) ∷ (n / 256 / 256 % 256) ∷ (n / 256 % 256) ∷ (n % 256) ∷ []) (omega arith) (omega arith) (λ e. omega arith)

pub number_form : (n : ℕ) → n < 2 ^ 64 → IsTrue (is_integer (number_octets n))
unfolding number_octets
number_form n fits =
    if_less (HasForm n) n (2 ^ 7) 1 _ (λ lt. refl) (λ g1.
    if_less (HasForm n) n (2 ^ 15) 2 _ (form_2 n g1) (λ g2.
    if_less (HasForm n) n (2 ^ 23) 3 _ (form_3 n g2) (λ g3.
    if_less (HasForm n) n (2 ^ 31) 4 _ (form_4 n g3) (λ g4.
    if_less (HasForm n) n (2 ^ 39) 5 _ (form_5 n g4) (λ g5.
    if_less (HasForm n) n (2 ^ 47) 6 _ (form_6 n g5) (λ g6.
    if_less (HasForm n) n (2 ^ 55) 7 _ (form_7 n g6) (λ g7.
    if_less (HasForm n) n (2 ^ 63) 8 9 (form_8 n g7) (λ g8. form_9 n g8 fits))))))))

abbrev HasSize : ℕ → ℕ → Type 0
HasSize n w = length (octets_of w n) ≤ 9

pub number_size : (n : ℕ) → length (number_octets n) ≤ 9
unfolding number_octets
number_size n =
    if_less (HasSize n) n (2 ^ 7) 1 _ (λ lt. omega arith) (λ g1.
    if_less (HasSize n) n (2 ^ 15) 2 _ (λ lt. omega arith) (λ g2.
    if_less (HasSize n) n (2 ^ 23) 3 _ (λ lt. omega arith) (λ g3.
    if_less (HasSize n) n (2 ^ 31) 4 _ (λ lt. omega arith) (λ g4.
    if_less (HasSize n) n (2 ^ 39) 5 _ (λ lt. omega arith) (λ g5.
    if_less (HasSize n) n (2 ^ 47) 6 _ (λ lt. omega arith) (λ g6.
    if_less (HasSize n) n (2 ^ 55) 7 _ (λ lt. omega arith) (λ g7.
    if_less (HasSize n) n (2 ^ 63) 8 9 (λ lt. omega arith) (λ g8. omega arith))))))))
