-- The first of two lists of rows.
use Rattle.std.specs.Prelude.{◌≡◌, ℕ, Bool, true, false, List, [], ◌∷◌, ◌++◌, Some, None}
use Rattle.std.proofs.Common.{refl}
use Rattle.http_heads.specs.Heads.{Row, first_of}

pub first_here : (xs ys : List Row) (s : ℕ) → first_of xs ≡ Some s → first_of (xs ++ ys) ≡ Some s
first_here [] ys s h = absurd (let e : None ≡ Some s = h in cc e)
first_here (x ∷ xs) ys s h = by_case x.applies refl (λ k. first_here xs ys s k)
  where
    by_case : (t : Bool) → x.applies ≡ t → (first_of xs ≡ Some s → first_of (xs ++ ys) ≡ Some s) → first_of ((x ∷ xs) ++ ys) ≡ Some s
    by_case true is below = rw is (rw is at h)
    by_case false is below = rw is (below (rw is at h))

pub first_later : (xs ys : List Row) → first_of xs ≡ None → first_of (xs ++ ys) ≡ first_of ys
first_later [] ys h = refl
first_later (x ∷ xs) ys h = by_case x.applies refl (λ k. first_later xs ys k)
  where
    by_case : (t : Bool) → x.applies ≡ t → (first_of xs ≡ None → first_of (xs ++ ys) ≡ first_of ys) → first_of ((x ∷ xs) ++ ys) ≡ first_of ys
    by_case true is below = absurd (let e : Some x.status ≡ None = rw is at h in cc e)
    by_case false is below = rw is (below (rw is at h))
