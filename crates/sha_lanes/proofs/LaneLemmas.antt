-- Operations on four lanes, lane by lane.
use Rattle.std.proofs.Common.{◌≡◌, ℕ, zero, suc, ◌<◌, ◌-◌, ◌*◌, ◌/◌, ◌%◌, ◌^◌, List, [], ◌∷◌, length, slice_index, bit_or, arith, refl}
use Rattle.std.specs.Int.{w32, rotate_right}
use Rattle.std.specs.Simd.Lanes.{zip2}

-- what holds of each of the four lanes
pub below_four : (P : ℕ → Type 0) → P 0 → P 1 → P 2 → P 3 → (i : ℕ) → i < 4 → P i
below_four P p0 p1 p2 p3 zero h = p0
below_four P p0 p1 p2 p3 (suc zero) h = p1
below_four P p0 p1 p2 p3 (suc (suc zero)) h = p2
below_four P p0 p1 p2 p3 (suc (suc (suc zero))) h = p3
below_four P p0 p1 p2 p3 (suc (suc (suc (suc n)))) h = absurd (omega arith)

-- each lane of a vector of one word
pub lane_splat : (k i : ℕ) → i < 4 → slice_index (k ∷ k ∷ k ∷ k ∷ []) i ≡ k
lane_splat k = below_four (λ i. slice_index (k ∷ k ∷ k ∷ k ∷ []) i ≡ k) refl refl refl refl

-- what holds of each list of four numbers
pub four_lanes : (P : List ℕ → Type 0) → ((a b c d : ℕ) → P (a ∷ b ∷ c ∷ d ∷ [])) → (xs : List ℕ) → length xs ≡ 4 → P xs
four_lanes P p (a ∷ b ∷ c ∷ d ∷ []) h = p a b c d
four_lanes P p [] h = absurd (omega arith)
four_lanes P p (a ∷ []) h = absurd (omega arith)
four_lanes P p (a ∷ b ∷ []) h = absurd (omega arith)
four_lanes P p (a ∷ b ∷ c ∷ []) h = absurd (omega arith)
four_lanes P p (a ∷ b ∷ c ∷ d ∷ e ∷ xs) h = absurd (omega arith)

-- a function of one vector, lane by lane
pub by_lanes : (F : List ℕ → List ℕ) (f : ℕ → ℕ) → ((a b c d : ℕ) → F (a ∷ b ∷ c ∷ d ∷ []) ≡ f a ∷ f b ∷ f c ∷ f d ∷ [])
    → (x : List ℕ) → length x ≡ 4 → (i : ℕ) → i < 4 → slice_index (F x) i ≡ f (slice_index x i)
by_lanes F f law = four_lanes (λ x. (i : ℕ) → i < 4 → slice_index (F x) i ≡ f (slice_index x i))
    (λ a b c d. rw (law a b c d) (below_four _ refl refl refl refl))

-- a function of three vectors, lane by lane
pub by_lanes3 : (F : List ℕ → List ℕ → List ℕ → List ℕ) (f : ℕ → ℕ → ℕ → ℕ)
    → ((a b c d p q r s t u v w : ℕ) → F (a ∷ b ∷ c ∷ d ∷ []) (p ∷ q ∷ r ∷ s ∷ []) (t ∷ u ∷ v ∷ w ∷ []) ≡ f a p t ∷ f b q u ∷ f c r v ∷ f d s w ∷ [])
    → (x : List ℕ) → length x ≡ 4 → (y : List ℕ) → length y ≡ 4 → (z : List ℕ) → length z ≡ 4
    → (i : ℕ) → i < 4 → slice_index (F x y z) i ≡ f (slice_index x i) (slice_index y i) (slice_index z i)
by_lanes3 F f law =
    four_lanes (λ x. (y : List ℕ) → length y ≡ 4 → (z : List ℕ) → length z ≡ 4 → (i : ℕ) → i < 4 → slice_index (F x y z) i ≡ f (slice_index x i) (slice_index y i) (slice_index z i)) (λ a b c d.
    four_lanes (λ y. (z : List ℕ) → length z ≡ 4 → (i : ℕ) → i < 4 → slice_index (F (a ∷ b ∷ c ∷ d ∷ []) y z) i ≡ f (slice_index (a ∷ b ∷ c ∷ d ∷ []) i) (slice_index y i) (slice_index z i)) (λ p q r s.
    four_lanes (λ z. (i : ℕ) → i < 4 → slice_index (F (a ∷ b ∷ c ∷ d ∷ []) (p ∷ q ∷ r ∷ s ∷ []) z) i ≡ f (slice_index (a ∷ b ∷ c ∷ d ∷ []) i) (slice_index (p ∷ q ∷ r ∷ s ∷ []) i) (slice_index z i)) (λ t u v w.
    rw (law a b c d p q r s t u v w) (below_four _ refl refl refl refl))))

-- two shifts of each lane and an or are a rotation
abbrev Rotates : ℕ → List ℕ → Type 0
Rotates k x = (i : ℕ) → i < 4
    → slice_index (zip2 bit_or
    (zip2 (λ a n. a / 2 ^ n) x (k ∷ k ∷ k ∷ k ∷ []))
    (zip2 (λ a n. a * 2 ^ n % 2 ^ 32) x ((32 - k) ∷ (32 - k) ∷ (32 - k) ∷ (32 - k) ∷ []))) i
    ≡ rotate_right w32 (slice_index x i) k

pub shifts_rotate : (k : ℕ) → 0 < k → k < 32 → (x : List ℕ) → length x ≡ 4 → Rotates k x
shifts_rotate k low high =
    let right : k % 32 ≡ k = omega arith in
    let left : (32 - k) % 32 ≡ 32 - k = omega arith in
    four_lanes (Rotates k) (λ a b c d. below_four _ (rw (right, left) refl) (rw (right, left) refl) (rw (right, left) refl) (rw (right, left) refl))
