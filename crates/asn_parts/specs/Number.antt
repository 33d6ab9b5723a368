-- Numbers below 2 ^ 64 as INTEGERs (X.690, 8.3).
use Rattle.std.specs.Prelude.{ℕ, zero, suc, ◌/◌, ◌%◌, ◌^◌, ◌++◌, nat_lt, if◌then◌else◌, List, [], ◌∷◌}

-- so many octets of a number, the highest first
abbrev pub octets_of : ℕ → ℕ → List ℕ
octets_of zero n = []
octets_of (suc k) n = octets_of k (n / 256) ++ (n % 256) ∷ []

-- The fewest octets that hold a number and a first bit of 0, since one of 1 makes it negative.
abbrev pub width_of : ℕ → ℕ
width_of n =
    if nat_lt n (2 ^ 7) then 1
    else (if nat_lt n (2 ^ 15) then 2
    else (if nat_lt n (2 ^ 23) then 3
    else (if nat_lt n (2 ^ 31) then 4
    else (if nat_lt n (2 ^ 39) then 5
    else (if nat_lt n (2 ^ 47) then 6
    else (if nat_lt n (2 ^ 55) then 7
    else (if nat_lt n (2 ^ 63) then 8
    else 9)))))))

-- the content of the INTEGER of a number
unfoldable pub number_octets : ℕ → List ℕ
number_octets n = octets_of (width_of n) n
