-- The octets that an append writes: a length, a payload and a closed gate.
use Rattle.std.specs.Prelude.{◌≡◌, ℕ, ◌+◌, ◌-◌, ◌≤◌, List, [], ◌∷◌, ◌++◌, length, take, drop}
use Rattle.journal_core.specs.Log.{framed}

-- what stands behind the four octets of length and before the closed gate
abbrev pub payload_in : List ℕ → List ℕ
payload_in octets = take (length octets - 5) (drop 4 octets)

-- the octets are a payload of at most 2 ^ 30 octets behind its length, and a closed gate
pub record IsRecord (octets : List ℕ) : Type 0 where
  pub spelled : octets ≡ framed (payload_in octets) ++ 0 ∷ []
  pub size : length octets ≡ length (payload_in octets) + 5
  pub fits : length (payload_in octets) ≤ 1073741824
