-- Lists one after the other.
use Rattle.std.proofs.Common.{◌≡◌, ℕ, zero, suc, ◌+◌, ◌<◌, List, [], ◌∷◌, ◌++◌, length, Some, arith, refl, ap}
use Rattle.std.specs.List.{AllByRecursion, slice_get}

pub get_front : {X : Type 0} (xs ys : List X) (n : ℕ) → n < length xs → slice_get (xs ++ ys) n ≡ slice_get xs n
get_front [] ys n within = absurd (omega (arith, within))
get_front (x ∷ xs) ys zero within = refl
get_front (x ∷ xs) ys (suc n) within = get_front xs ys n (omega (arith, within))

pub get_back : {X : Type 0} (xs ys : List X) (k n : ℕ) → n ≡ length xs + k → slice_get (xs ++ ys) n ≡ slice_get ys k
get_back [] ys k n same = ap (λ (m : ℕ). slice_get ys m) (omega (arith, same))
get_back (x ∷ xs) ys k zero same = absurd (omega (arith, same))
get_back (x ∷ xs) ys k (suc n) same = get_back xs ys k n (omega (arith, same))

-- what stands right behind the first ones
pub get_seam : {X : Type 0} (xs ys : List X) (y : X) → slice_get (xs ++ y ∷ ys) (length xs) ≡ Some y
get_seam xs ys y = get_back xs (y ∷ ys) 0 (length xs) (omega arith)

pub all_append : {X : Type 0} (P : X → Type 0) (xs ys : List X) → AllByRecursion P xs → AllByRecursion P ys → AllByRecursion P (xs ++ ys)
all_append P [] ys first second = second
all_append P (x ∷ xs) ys first second = (first.0, all_append P xs ys first.1 second)

pub all_weaker : {X : Type 0} (P Q : X → Type 0) (xs : List X) → ((x : X) → P x → Q x) → AllByRecursion P xs → AllByRecursion Q xs
all_weaker P Q [] less each = tt
all_weaker P Q (x ∷ xs) less each = (less x each.0, all_weaker P Q xs less each.1)
