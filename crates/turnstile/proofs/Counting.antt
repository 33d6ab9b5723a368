-- A list that has each place above the opening length and up to the length once, and no other, has as many places as the history grew by.
use Rattle.std.proofs.Common.{◌≡◌, ℕ, zero, suc, ◌+◌, ◌-◌, ◌<◌, ◌≤◌, ◌≢◌, ◌⊎◌, ◌==◌, List, [], ◌∷◌, length, refl, arith, if◌then◌else◌}
use mathlib.Core.Logic.{dite}
use native.Mathlib.Decide.{ℕ_discrete}
use Rattle.std.proofs.lemmas.Bool.Decides.{nat_tests}
use Rattle.turnstile.specs.Lists.{times, once}

-- f of each number below n, added up
abbrev upto : (ℕ → ℕ) → ℕ → ℕ
upto f zero = 0
upto f (suc n) = upto f n + f n

upto_same : (f g : ℕ → ℕ) (n : ℕ) → ((p : ℕ) → f p ≡ g p) → upto f n ≡ upto g n
upto_same f g zero h = refl
upto_same f g (suc n) h = let x = upto_same f g n h in let y = h n in omega arith

upto_plus : (f g : ℕ → ℕ) (n : ℕ) → upto (λ p. f p + g p) n ≡ upto f n + upto g n
upto_plus f g zero = refl
upto_plus f g (suc n) = let x = upto_plus f g n in omega arith

upto_zero : (n : ℕ) → upto (λ p. 0) n ≡ 0
upto_zero zero = refl
upto_zero (suc n) = let x = upto_zero n in omega arith

once_below : (a b n : ℕ) → n ≤ b → ((a < n) × (once a b n ≡ 1)) ⊎ ((n ≤ a) × (once a b n ≡ 0))
once_below a b n le = grind (arith, nat_tests)

once_low : (a b p : ℕ) → 0 < once a b p → p < b + 1
once_low a b p h = grind (arith, nat_tests)

-- 1 where the two are the same number
abbrev hit : ℕ → ℕ → ℕ
hit x p = if x == p then 1 else 0

hits : (x p : ℕ) → x ≡ p → hit x p ≡ 1
hits x p e = grind (arith, nat_tests)

misses : (x p : ℕ) → x ≢ p → hit x p ≡ 0
misses x p e = grind (arith, nat_tests)

sum_is : (a b m n : ℕ) → a ≡ m → b ≡ n → a + b ≡ m + n
sum_is a b m n e d = cc

upto_none : (x n : ℕ) → n ≤ x → upto (hit x) n ≡ 0
upto_none x zero le = refl
upto_none x (suc n) le = sum_is _ _ 0 0 (upto_none x n (omega arith)) (misses x n (λ e. omega arith))

upto_one : (x n : ℕ) → x < n → upto (hit x) n ≡ 1
upto_one x zero le = absurd (omega arith)
upto_one x (suc n) le =
    dite (ℕ_discrete x n)
    (λ e. sum_is _ _ 0 1 (upto_none x n (omega arith)) (hits x n e))
    (λ e. sum_is _ _ 1 0 (upto_one x n (omega arith)) (misses x n e))

some_times : (x n : ℕ) → 0 < hit x x + n
some_times x n = rw (hits x x refl) (omega arith)

-- where each number of the list is below n, the list has as many numbers as are found below n
upto_times : (n : ℕ) (xs : List ℕ) → ((p : ℕ) → 0 < times p xs → p < n) → upto (λ p. times p xs) n ≡ length xs
upto_times n [] low = upto_zero n
upto_times n (x ∷ xs) low =
    let here : x < n = low x (some_times x (times x xs)) in
    let rest = upto_times n xs (λ p some. low p (omega arith)) in
    let one = upto_one x n here in
    let both = upto_plus (hit x) (λ p. times p xs) n in
    omega arith

upto_once : (a b n : ℕ) → n ≤ b + 1 → upto (λ p. once a b p) n ≡ (n - 1) - a
upto_once a b zero le = omega arith
upto_once a b (suc n) le =
    let h = upto_once a b n (omega arith) in
    let k = once_below a b n (omega arith) in
    omega arith

-- the number of places
pub places_count : (a b : ℕ) (xs : List ℕ) → a ≤ b → ((p : ℕ) → times p xs ≡ once a b p) → a + length xs ≡ b
places_count a b xs le places =
    let low : (p : ℕ) → 0 < times p xs → p < b + 1 = λ p some. let e = places p in once_low a b p (omega arith) in
    let l = upto_times (b + 1) xs low in
    let s = upto_same (λ p. times p xs) (λ p. once a b p) (b + 1) places in
    let o = upto_once a b (b + 1) (omega arith) in
    omega arith
