-- What holds at each row of the table holds of every w and ls that stand in one.
use Rattle.std.proofs.Common.{◌≡◌, ℕ, true, subst, sym, inl, inr}
use Rattle.std.specs.Prelude.{IsTrue, ◌==◌, ◌&&◌}
use Rattle.std.proofs.lemmas.Bool.{or_cases, and_parts, eqb-true}
use Rattle.lms_params.specs.Parameters.{is_width_and_shift}

-- a fact at one row of two columns
at_pair : (P : ℕ → ℕ → Type 0) (a b x y : ℕ) → P a b → (x == a && y == b) ≡ true → P x y
at_pair P a b x y p h =
    let parts = and_parts _ _ h in
    let first = sym (eqb-true x a parts.0) in
    let second = sym (eqb-true y b parts.1) in
    subst (λ (n : ℕ). P n y) first (subst (λ (n : ℕ). P a n) second p)

-- a fact at each width with its shift
pub at_shifts : (P : ℕ → ℕ → Type 0) → P 1 7 → P 2 6 → P 4 4 → P 8 0
    → (w ls : ℕ) → IsTrue (is_width_and_shift w ls) → P w ls
at_shifts P one two four eight w ls h =
    elim (or_cases _ _ h) [
      | inl not_eight ↦ elim (or_cases _ _ not_eight) [
        | inl low ↦ elim (or_cases _ _ low) [
          | inl r ↦ at_pair P 1 7 w ls one r
          | inr r ↦ at_pair P 2 6 w ls two r
        ]
        | inr r ↦ at_pair P 4 4 w ls four r
      ]
      | inr r ↦ at_pair P 8 0 w ls eight r
    ]
