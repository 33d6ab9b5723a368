-- The fixed array behind a short list of octets. No clause outside its type reads these words.
use Rattle.std.specs.Prelude.{ℕ, List, ◌≡◌, ◌≤◌, ◌-◌, ◌++◌, length, take, drop, replicate}
use Rattle.std.proofs.Common.{arith, take-append-drop, length-take-le}

-- the array has 64 octets, of which the first len are used and the others are 0
pub record IsFilled (octets : List ℕ) (len : ℕ) : Type 0 where
  pub fits : len ≤ 64
  pub whole : length octets ≡ 64
  pub blank : drop len octets ≡ replicate (64 - len) 0

-- the used octets are as many as the length says
pub filled_len : (octets : List ℕ) (len : ℕ) → IsFilled octets len → length (take len octets) ≡ len
filled_len octets len h = length-take-le len octets (omega (arith, h.fits, h.whole))

-- the used octets, and zeros behind them, are the array
pub filled_octets : (octets : List ℕ) (len : ℕ) → IsFilled octets len
    → take len octets ++ replicate (64 - length (take len octets)) 0 ≡ octets
filled_octets octets len h = cc (take-append-drop len octets, h.blank, filled_len octets len h)
