-- The checksum's sum is small.
use Rattle.std.proofs.Common.{◌≡◌, ℕ, zero, suc, ◌-◌, ◌*◌, ◌/◌, ◌%◌, ◌^◌, ◌<◌, ◌≤◌, refl, arith}
use Rattle.std.specs.Prelude.{IsTrue}
use Rattle.lms_params.specs.Parameters.{is_width_and_shift}
use Rattle.lms_params.specs.Digits.{sum_below}
use Rattle.lms_params.proofs.Rows.{at_shifts}

-- n terms, none above m
sum_below-le : (f : ℕ → ℕ) (m n : ℕ) → ((i : ℕ) → f i ≤ m) → sum_below f n ≤ n * m
sum_below-le f m zero each = omega arith
sum_below-le f m (suc n) each = omega (arith, sum_below-le f m n each, each n)

-- the greatest digit, as the code computes it
pub greatest : (w ls : ℕ) → IsTrue (is_width_and_shift w ls) → 1 * 2 ^ w % 4294967296 - 1 ≡ 2 ^ w - 1
greatest w ls h = at_shifts (λ v s. 1 * 2 ^ v % 4294967296 - 1 ≡ 2 ^ v - 1) refl refl refl refl w ls h

-- the sum over the digits of a hash has 16 bits, also when it is shifted
pub sum_fits : (f : ℕ → ℕ) (w ls n : ℕ) → IsTrue (is_width_and_shift w ls) → ((i : ℕ) → f i ≤ 2 ^ w - 1)
    → n ≤ 256 / w → (sum_below f n < 65536) × (sum_below f n * 2 ^ ls < 65536)
sum_fits f w ls n h =
    at_shifts (λ v s. ((i : ℕ) → f i ≤ 2 ^ v - 1) → n ≤ 256 / v → (sum_below f n < 65536) × (sum_below f n * 2 ^ s < 65536))
    (λ each few. let all = sum_below-le f 1 n each in (omega arith, omega arith))
    (λ each few. let all = sum_below-le f 3 n each in (omega arith, omega arith))
    (λ each few. let all = sum_below-le f 15 n each in (omega arith, omega arith))
    (λ each few. let all = sum_below-le f 255 n each in (omega arith, omega arith))
    w ls h
