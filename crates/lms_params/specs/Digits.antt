-- The digits of a string and the checksum over them (RFC 8554, 3.1.3 and 4.4).
use Rattle.std.specs.Prelude.{ℕ, zero, suc, ◌+◌, ◌-◌, ◌*◌, ◌/◌, ◌%◌, ◌^◌, ◌++◌, List, bit_and, slice_index}
use Rattle.std.specs.Int.{w16, to_be_bytes}

-- coef(S, i, w): (2^w - 1) AND (byte(S, floor(i * w / 8)) >> (8 - (w * (i % (8 / w)) + w))) (RFC 8554, 3.1.3)
abbrev pub coef_of : List ℕ → ℕ → ℕ → ℕ
coef_of s i w = bit_and (2 ^ w - 1) (slice_index s (i * w / 8) / 2 ^ (8 - (w * (i % (8 / w)) + w)))

-- f 0 + .. + f (n - 1)
abbrev pub sum_below : (ℕ → ℕ) → ℕ → ℕ
sum_below f zero = 0
sum_below f (suc n) = sum_below f n + f n

-- Cksm(Q): the sum of 2^w - 1 - coef(Q, i, w) over the 256 / w digits of Q, shifted left by ls (RFC 8554, 4.4)
unfoldable pub checksum_of : List ℕ → ℕ → ℕ → ℕ
checksum_of q w ls = sum_below (λ i. 2 ^ w - 1 - coef_of q i w) (256 / w) * 2 ^ ls

-- Q || Cksm(Q), whose digits say how far each chain runs (RFC 8554, 4.5)
abbrev pub with_checksum : List ℕ → ℕ → ℕ → List ℕ
with_checksum q w ls = q ++ to_be_bytes w16 (checksum_of q w ls)
