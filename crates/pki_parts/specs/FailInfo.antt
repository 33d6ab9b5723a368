-- Reasons of refusal (PKIFailureInfo, RFC 9810, 5.2.3).
use Rattle.std.specs.Prelude.{◌≡◌, ℕ, ◌-◌, ◌/◌, ◌%◌, ◌^◌, ◌≤◌, ◌++◌, ◌==◌, Bool, false, IsTrue, [], ◌∷◌, replicate, slice_index_or, Option, Some, None}
use Rattle.der_base.specs.Values.{BitString}
use Rattle.cmp_values.specs.declared.fail_info.FailInfo.{FailInfo}
use Rattle.cmp_values.specs.Reasons.{bit_of}

-- The string of bits that ends with this one, and has no other one. Bits are counted from the highest of the first octet
-- (X.690, 8.6.2.1 and 11.2.2).
abbrev pub bits_to : ℕ → BitString
bits_to bit = record { unused = 7 - bit % 8; octets = replicate (bit / 8) 0 ++ 2 ^ (7 - bit % 8) ∷ [] }

-- The bit of this number is there and set.
abbrev pub is_set : BitString → ℕ → Bool
is_set b bit = (slice_index_or b.octets (bit / 8) 0) / 2 ^ (7 - bit % 8) % 2 == 1

-- The reason is that of the lowest bit that is set and has one; there is none where no such bit is set.
abbrev pub IsFirst : BitString → Option FailInfo → Type 0
IsFirst b None = (fail : FailInfo) → is_set b (bit_of fail) ≡ false
IsFirst b (Some fail) = IsTrue (is_set b (bit_of fail)) × ((other : FailInfo) → IsTrue (is_set b (bit_of other)) → bit_of fail ≤ bit_of other)
