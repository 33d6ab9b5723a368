-- Chains that run side by side, a few at a time.
use Rattle.std.specs.Prelude.{ℕ, ◌≡◌, ◌≢◌, ◌-◌, ◌<◌, ◌≤◌, List, [], ◌++◌, length, replicate, slice_index, slice_index_or, take}
use Rattle.sha2.specs.Sha256.{padded_message}
use Rattle.lm_ots.specs.Chains.{chain}

-- where chain i ends that begins at its place and value
abbrev pub end_of : List ℕ → ℕ → List ℕ → List ℕ → List (List ℕ) → ℕ → List ℕ
end_of id q from to starts i = chain id q i (slice_index from i) (slice_index to i) (slice_index_or starts i [])

-- how many steps chain i takes
abbrev pub steps_of : List ℕ → List ℕ → ℕ → ℕ
steps_of from to i = slice_index to i - slice_index from i

-- places and values for each of so many chains
pub record AreSizes (from to : List ℕ) (starts : List (List ℕ)) (count : ℕ) : Type 0 where
  pub few : count ≤ 265
  pub froms : length from ≡ count
  pub tos : length to ≡ count
  pub values : length starts ≡ count

-- value i of a list
abbrev pub value_in : List (List ℕ) → ℕ → List ℕ
value_in values i = slice_index_or values i []

-- value x is that of f
abbrev pub Settled : (ℕ → List ℕ) → List (List ℕ) → ℕ → Type 0
Settled f values x = slice_index_or values x [] ≡ f x

-- none of the first n picks is x
abbrev pub NotPicked : List ℕ → ℕ → ℕ → Type 0
NotPicked picks n x = (k : ℕ) → k < n → slice_index picks k ≢ x

-- value x is that of f, unless x still waits among the first n picks
abbrev pub SettledOrWaiting : (ℕ → List ℕ) → List (List ℕ) → List ℕ → ℕ → ℕ → Type 0
SettledOrWaiting f values picks n x = NotPicked picks n x → Settled f values x

-- each of the four picks is below the count
abbrev pub AreBelow : List ℕ → ℕ → Type 0
AreBelow picks count = (k : ℕ) → k < 4 → slice_index picks k < count

-- the octets of a message of this length, and only zeros behind them
abbrev pub IsFilled : List ℕ → List ℕ → ℕ → Type 0
IsFilled octets message size = (length message ≡ size) × (octets ≡ message ++ replicate (8512 - size) 0)

-- the octets begin with a message and its padding, of this length
abbrev pub BeginsPadded : List ℕ → List ℕ → ℕ → Type 0
BeginsPadded octets message size = (length (padded_message message) ≡ size) × (take size octets ≡ padded_message message)
