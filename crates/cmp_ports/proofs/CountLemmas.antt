-- Faults and values of some calls one after the other.
use Rattle.std.specs.Prelude.{ℕ, zero, suc, ◌≡◌, ◌+◌, ◌-◌, ◌<◌, ◌≤◌, List, [], ◌∷◌, ◌++◌, length, Option, Some, None}
use Rattle.std.specs.List.{slice_get}
use Rattle.std.proofs.Common.{arith, refl, ◌∙◌, ap, sym, ⊎_elim, length-append}
use Rattle.std.proofs.lemmas.Bool.{cases_lt}
use Rattle.cmp_ports.specs.Coming.{Gives, GivesAll}
use Rattle.cmp_ports.specs.Faults.{Rose, RoseBy}

-- one fault
pub rose_by_one : (before now : ℕ) → Rose before now → RoseBy 1 before now
rose_by_one before now rose = rose

-- no fault
pub rose_by_none : (before now : ℕ) → before ≤ now → RoseBy 0 before now
rose_by_none before now later = omega (arith, later)

-- the faults of two runs add up
pub rose_by_both : (m n before mid now : ℕ) → RoseBy m before mid → RoseBy n mid now → RoseBy (m + n) before now
rose_by_both m n before mid now first second = omega (arith, first, second)

-- one value
first_of_one : {X : Type 0} (x : X) (old : ℕ → X) → old zero ≡ x → (n : ℕ) → n < 1 → slice_get (x ∷ []) n ≡ Some (old n)
first_of_one x old same zero within = ap (λ (v : _). Some v) (sym same)
first_of_one x old same (suc n) within = absurd (omega (arith, within))

pub gives_one : {X : Type 0} (old new : Option (ℕ → X)) (x : X) → Gives old new x → GivesAll old new (x ∷ [])
gives_one None new x gave = tt
gives_one (Some old) None x gave = absurd gave
gives_one (Some old) (Some new) x gave = (
  first_of_one x old gave.0,
  λ n. gave.1 n ∙ ap old (omega arith),
)

-- no value
pub gives_none : {X : Type 0} (old : Option (ℕ → X)) → GivesAll old old []
gives_none None = tt
gives_none (Some old) = (λ n within. absurd (omega (arith, within)), λ n. ap old (omega arith))

slice_get_front : {X : Type 0} (xs ys : List X) (n : ℕ) → n < length xs → slice_get (xs ++ ys) n ≡ slice_get xs n
slice_get_front [] ys n within = absurd (omega (arith, within))
slice_get_front (x ∷ xs) ys zero within = refl
slice_get_front (x ∷ xs) ys (suc n) within = slice_get_front xs ys n (omega (arith, within))

slice_get_back : {X : Type 0} (xs ys : List X) (k n : ℕ) → n ≡ length xs + k → slice_get (xs ++ ys) n ≡ slice_get ys k
slice_get_back [] ys k n same = ap (λ (m : ℕ). slice_get ys m) (omega (arith, same))
slice_get_back (x ∷ xs) ys k zero same = absurd (omega (arith, same))
slice_get_back (x ∷ xs) ys k (suc n) same = slice_get_back xs ys k n (omega (arith, same))

-- the values of two runs, one after the other
pub gives_both : {X : Type 0} (old mid new : Option (ℕ → X)) (xs ys : List X) → GivesAll old mid xs → GivesAll mid new ys → GivesAll old new (xs ++ ys)
gives_both None mid new xs ys first second = tt
gives_both (Some old) None new xs ys first second = absurd first
gives_both (Some old) (Some mid) None xs ys first second = absurd second
gives_both (Some old) (Some mid) (Some new) xs ys first second = (
  λ n within. ⊎_elim
      (λ inside. slice_get_front xs ys n inside ∙ first.0 n inside)
      (λ past.
      let k : ℕ = n - length xs in
      let same : n ≡ length xs + k = omega (arith, past) in
      slice_get_back xs ys k n same ∙ second.0 k (omega (arith, within, past, length-append xs ys)) ∙ ap (λ (v : _). Some v) (first.1 k) ∙ ap (λ (m : ℕ). Some (old m)) (sym same))
      (cases_lt n (length xs)),
  λ n. second.1 n ∙ first.1 (length ys + n) ∙ ap old (omega (arith, length-append xs ys)),
)
