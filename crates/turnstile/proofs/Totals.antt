-- Sums over the views of all seats, and how often a place stands in a list.
use Rattle.std.proofs.Common.{◌≡◌, ℕ, zero, suc, ◌+◌, ◌≤◌, ◌≢◌, List, [], ◌∷◌, ◌++◌, set, sym, refl, ap, arith}
use mathlib.Core.Option.{some, some-injective, some-ne-none}
use lib.ListN.{get_elem?}
use Rattle.turnstile.specs.Lists.{total, times}

module _ {A : Type 0} where
  -- the total after a change of one element
  pub total_set : (f : A → ℕ) (xs : List A) (i : ℕ) (v w : A) → get_elem? xs i ≡ some v → total f (set xs i w) + f v ≡ total f xs + f w
  total_set f [] i v w e = absurd (some-ne-none v (sym e))
  total_set f (x ∷ xs) zero v w e = let h : f x ≡ f v = ap f (some-injective x v e) in omega arith
  total_set f (x ∷ xs) (suc i) v w e = let h = total_set f xs i v w e in omega arith

  pub total_snoc : (f : A → ℕ) (xs : List A) (w : A) → total f (xs ++ w ∷ []) ≡ total f xs + f w
  total_snoc f [] w = omega arith
  total_snoc f (x ∷ xs) w = let h = total_snoc f xs w in omega arith

  -- one element is no more than the total
  pub total_at : (f : A → ℕ) (xs : List A) (i : ℕ) (v : A) → get_elem? xs i ≡ some v → f v ≤ total f xs
  total_at f [] i v e = absurd (some-ne-none v (sym e))
  total_at f (x ∷ xs) zero v e = let h : f x ≡ f v = ap f (some-injective x v e) in omega arith
  total_at f (x ∷ xs) (suc i) v e = let h = total_at f xs i v e in omega arith

  -- nor are two elements
  pub total_two : (f : A → ℕ) (xs : List A) (i j : ℕ) (v w : A) → i ≢ j → get_elem? xs i ≡ some v → get_elem? xs j ≡ some w → f v + f w ≤ total f xs
  total_two f [] i j v w n e d = absurd (some-ne-none v (sym e))
  total_two f (x ∷ xs) zero zero v w n e d = absurd (n refl)
  total_two f (x ∷ xs) zero (suc j) v w n e d = let h : f x ≡ f v = ap f (some-injective x v e) in let k = total_at f xs j w d in omega arith
  total_two f (x ∷ xs) (suc i) zero v w n e d = let h : f x ≡ f w = ap f (some-injective x w d) in let k = total_at f xs i v e in omega arith
  total_two f (x ∷ xs) (suc i) (suc j) v w n e d = let h = total_two f xs i j v w (λ k. n (ap suc k)) e d in omega arith

  -- one sum is below another where each part is
  pub total_le : (f g : A → ℕ) (xs : List A) → ((i : ℕ) (v : A) → get_elem? xs i ≡ some v → f v ≤ g v) → total f xs ≤ total g xs
  total_le f g [] h = omega arith
  total_le f g (x ∷ xs) h = let k = total_le f g xs (λ i v e. h (suc i) v e) in let l : f x ≤ g x = h 0 x refl in omega arith

  -- where no element has any, the total is 0
  pub total_none : (f : A → ℕ) (xs : List A) → ((j : ℕ) (w : A) → get_elem? xs j ≡ some w → f w ≡ 0) → total f xs ≡ 0
  total_none f [] h = refl
  total_none f (x ∷ xs) h = let k : f x ≡ 0 = h 0 x refl in let l = total_none f xs (λ j w d. h (suc j) w d) in omega arith

  -- where one element has all, the total is that element's
  pub total_only : (f : A → ℕ) (xs : List A) (i : ℕ) (v : A) → get_elem? xs i ≡ some v → ((j : ℕ) (w : A) → j ≢ i → get_elem? xs j ≡ some w → f w ≡ 0) → total f xs ≡ f v
  total_only f [] i v e h = absurd (some-ne-none v (sym e))
  total_only f (x ∷ xs) zero v e h = let k : f x ≡ f v = ap f (some-injective x v e) in let l = total_none f xs (λ j w d. h (suc j) w (λ a. omega arith) d) in omega arith
  total_only f (x ∷ xs) (suc i) v e h = let k : f x ≡ 0 = h 0 x (λ a. omega arith) refl in let l = total_only f xs i v e (λ j w n d. h (suc j) w (λ a. n (omega arith)) d) in omega arith

pub times_append : (p : ℕ) (xs ys : List ℕ) → times p (xs ++ ys) ≡ times p xs + times p ys
times_append p [] ys = omega arith
times_append p (x ∷ xs) ys = let h = times_append p xs ys in omega arith
