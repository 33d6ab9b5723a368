-- Elements of lists.
use Rattle.std.proofs.Common.{◌≡◌, ℕ, zero, suc, List, [], ◌∷◌, ◌++◌, Some, subst, inl, inr, ◌⊎◌}
use Rattle.std.specs.Prelude.{slice_get}
use Rattle.std.specs.List.{AllByRecursion}
use Rattle.std.proofs.lemmas.Option.{none-some, same_Some}
use Rattle.signed_texts.specs.Laws.{Stands}

get_left : {X : Type 0} (xs ys : List X) (i : ℕ) (x : X) → slice_get xs i ≡ Some x → slice_get (xs ++ ys) i ≡ Some x
get_left [] ys i x e = absurd (none-some x e)
get_left (z ∷ xs) ys zero x e = e
get_left (z ∷ xs) ys (suc i) x e = get_left xs ys i x e

pub stands_left : {X : Type 0} (x : X) (xs ys : List X) → Stands x xs → Stands x (xs ++ ys)
stands_left x xs ys s = (s.0, get_left xs ys s.0 x s.1)

pub stands_right : {X : Type 0} (x : X) (xs ys : List X) → Stands x ys → Stands x (xs ++ ys)
stands_right x [] ys s = s
stands_right x (z ∷ xs) ys s = let rest = stands_right x xs ys s in (suc rest.0, rest.1)

later_or : {X : Type 0} (x z : X) (xs ys : List X) → Stands x xs ⊎ Stands x ys → Stands x (z ∷ xs) ⊎ Stands x ys
later_or x z xs ys (inl l) = inl (suc l.0, l.1)
later_or x z xs ys (inr r) = inr r

either_at : {X : Type 0} (xs ys : List X) (i : ℕ) (x : X) → slice_get (xs ++ ys) i ≡ Some x → Stands x xs ⊎ Stands x ys
either_at [] ys i x e = inr (i, e)
either_at (z ∷ xs) ys zero x e = inl (0, e)
either_at (z ∷ xs) ys (suc i) x e = later_or x z xs ys (either_at xs ys i x e)

pub stands_either : {X : Type 0} (x : X) (xs ys : List X) → Stands x (xs ++ ys) → Stands x xs ⊎ Stands x ys
stands_either x xs ys s = either_at xs ys s.0 x s.1

all_get : {X : Type 0} (P : X → Type 0) (xs : List X) (i : ℕ) (x : X) → AllByRecursion P xs → slice_get xs i ≡ Some x → P x
all_get P [] i x all is = absurd (none-some x is)
all_get P (z ∷ xs) zero x all is = subst P (same_Some z x is) all.0
all_get P (z ∷ xs) (suc i) x all is = all_get P xs i x all.1 is

pub all_at : {X : Type 0} (P : X → Type 0) (xs : List X) (x : X) → AllByRecursion P xs → Stands x xs → P x
all_at P xs x all s = all_get P xs s.0 x all s.1

pub all_so : {X : Type 0} (P Q : X → Type 0) (xs : List X) → ((x : X) → P x → Q x) → AllByRecursion P xs → AllByRecursion Q xs
all_so P Q [] there all = tt
all_so P Q (x ∷ xs) there all = (there x all.0, all_so P Q xs there all.1)
