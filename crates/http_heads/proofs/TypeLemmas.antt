-- The octets before a semicolon, found by its place.
use Rattle.std.specs.Prelude.{◌≡◌, ℕ, ◌≤◌, ◌<◌, zero, suc, true, false, List, [], ◌∷◌, length, take, ◌==◌}
use Rattle.std.proofs.Common.{arith, get_or, refl, ap}
use Rattle.http_heads.specs.Heads.{before_semicolon}
use borrow.Author.Tests.{eq-eqb, ne_eqb}

pub before_first : (text : List ℕ) (i : ℕ) → i < length text → ((k : ℕ) → k < i → get_or text k 0 ≡ 59 → ⊥) → get_or text i 0 ≡ 59 → take i text ≡ before_semicolon text
before_first [] i within none here = absurd (omega (arith, within))
before_first (c ∷ text) zero within none here = let test : (c == 59) ≡ true = eq-eqb c 59 here in rw test refl
before_first (c ∷ text) (suc i) within none here =
    let test : (c == 59) ≡ false = ne_eqb c 59 (none 0 (omega arith)) in
    rw test (ap (λ (l : List ℕ). c ∷ l) (before_first text i (omega (arith, within)) (λ k below. none (suc k) (omega (arith, below))) here))

pub before_none : (text : List ℕ) (i : ℕ) → length text ≤ i → ((k : ℕ) → k < i → get_or text k 0 ≡ 59 → ⊥) → text ≡ before_semicolon text
before_none [] i past none = refl
before_none (c ∷ text) zero past none = absurd (omega (arith, past))
before_none (c ∷ text) (suc i) past none =
    let test : (c == 59) ≡ false = ne_eqb c 59 (none 0 (omega arith)) in
    rw test (ap (λ (l : List ℕ). c ∷ l) (before_none text i (omega (arith, past)) (λ k below. none (suc k) (omega (arith, below)))))
