-- A chain goes on from where it is.
use Rattle.std.proofs.Common.{◌≡◌, ℕ, suc, ◌+◌, ◌-◌, ◌<◌, ◌≤◌, List, ap, arith}
use Rattle.lm_ots.specs.Chains.{step, steps, chain}

-- a chain that is not at its end takes the next step first
pub chain-next : (id : List ℕ) (q i a b : ℕ) (x : List ℕ) → a < b
    → chain id q i a b x ≡ chain id q i (a + 1) b (step id q i a x)
unfolding steps
chain-next id q i a b x h =
    let left : b - a ≡ suc (b - (a + 1)) = omega arith in
    ap (λ (n : ℕ). steps id q i a n x) left

-- a chain at its end, or past it, stays
pub chain-done : (id : List ℕ) (q i a b : ℕ) (x : List ℕ) → b ≤ a → chain id q i a b x ≡ x
unfolding steps
chain-done id q i a b x h =
    let none : b - a ≡ 0 = omega arith in
    ap (λ (n : ℕ). steps id q i a n x) none
