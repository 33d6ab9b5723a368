-- A lane of an array of vectors, and a list by its places.
use Rattle.std.proofs.Common.{◌≡◌, ℕ, zero, suc, List, [], ◌∷◌, length, set, slice_index, slice_index_or, refl, ap}
use Rattle.sha_lanes.specs.Lanes.{lane}

-- word t of a lane
pub lane_read : (i t : ℕ) (ws : List (List ℕ)) → slice_index (lane i ws) t ≡ slice_index (slice_index_or ws t []) i
lane_read i t [] = refl
lane_read i zero (w ∷ ws) = refl
lane_read i (suc t) (w ∷ ws) = lane_read i t ws

pub lane_set : (i t : ℕ) (ws : List (List ℕ)) (v : List ℕ) → lane i (set ws t v) ≡ set (lane i ws) t (slice_index v i)
lane_set i t [] v = refl
lane_set i zero (w ∷ ws) v = refl
lane_set i (suc t) (w ∷ ws) v = ap (λ (xs : List ℕ). slice_index w i ∷ xs) (lane_set i t ws v)

pub lane_length : (i : ℕ) (ws : List (List ℕ)) → length (lane i ws) ≡ length ws
lane_length i [] = refl
lane_length i (w ∷ ws) = ap suc (lane_length i ws)

-- f 0, .., f (n - 1)
abbrev pub listed : (ℕ → ℕ) → ℕ → List ℕ
listed f zero = []
listed f (suc n) = f 0 ∷ listed (λ k. f (suc k)) n

listed_all : (xs : List ℕ) → listed (slice_index xs) (length xs) ≡ xs
listed_all [] = refl
listed_all (x ∷ xs) = ap (λ (l : List ℕ). x ∷ l) (listed_all xs)

pub listed_is : (n : ℕ) (xs : List ℕ) → length xs ≡ n → listed (slice_index xs) n ≡ xs
listed_is n xs h = rw (← h) (listed_all xs)
