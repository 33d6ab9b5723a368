-- A history with one change behind it.
use Rattle.std.proofs.Common.{◌≡◌, ℕ, zero, suc, ◌≤◌, Bool, true, List, [], ◌∷◌, ◌++◌, length, take, get_or, Option, Some, None, refl, sym, ap, subst, ◌∙◌, arith}
use Rattle.std.specs.Prelude.{◌-◌, option_and_then, find, is_some, slice_get}
use Rattle.std.specs.Option.{option_or}
use Rattle.std.proofs.lemmas.List.{length-take-le}
use Rattle.std.proofs.lemmas.List.Folds.{find-append}
use Rattle.std.proofs.lemmas.Option.{none-some, same_Some, slice_get-get_or}
use Rattle.deal_changes.specs.declared.change.Kind.{Kind}
use Rattle.deal_changes.specs.declared.change.Change.{Change}
use Rattle.deal_model.specs.Views.{History, owner_in, has_owner, owner_of}
use Rattle.deal_table.specs.History.{receipt_in, receipt_at}
use Rattle.deal_table.proofs.Senders.{found_is}

pub found_behind : (test : Change → Bool) (h g : History) → find test (h ++ g) ≡ option_or (find test h) (find test g)
found_behind test h g = find-append test h g

some_or : {Y : Type 0} (v w : Option Y) → is_some v ≡ true → v ≡ option_or v w
some_or (Some y) w p = refl
some_or None w p = absurd (cc p)

-- a view of what was found first
view_or : {X Y : Type 0} (f : X → Option Y) (a b : Option X) → ((x : X) → a ≡ Some x → is_some (f x) ≡ true) → option_and_then f (option_or a b) ≡ option_or (option_and_then f a) (option_and_then f b)
view_or f None b p = refl
view_or f (Some x) b p = some_or (f x) (option_and_then f b) (p x refl)

pub owner_behind : (h g : History) (kind : Kind) (kid : List ℕ) → owner_of (h ++ g) kind kid ≡ option_or (owner_of h kind kid) (owner_of g kind kid)
unfolding owner_of
owner_behind h g kind kid = rw (find-append (has_owner kind kid) h g) (view_or (owner_in kind kid) (find (has_owner kind kid) h) (find (has_owner kind kid) g) (λ x e. found_is (has_owner kind kid) h x e))

pub cut_behind : (h : History) (n : ℕ) (c : Change) → slice_get h n ≡ Some c → take (suc n) h ≡ take n h ++ c ∷ []
cut_behind [] n c e = absurd (none-some c e)
cut_behind (x ∷ h) zero c e = ap (λ (y : Change). y ∷ []) (same_Some x c e)
cut_behind (x ∷ h) (suc n) c e = ap (λ (l : History). x ∷ l) (cut_behind h n c e)

cut_length : (h : History) (n : ℕ) → suc n ≤ length h → length (take n h) ≡ n
cut_length h n le = length-take-le n h (omega (arith, le))

-- the receipt at a place, by the history before it and the change there
pub at_place : (h : History) (place : ℕ) (front : History) (c : Change) → 1 ≤ place → place ≤ length h → front ≡ take (place - 1) h → c ≡ get_or h (place - 1) c → receipt_in (front ++ c ∷ []) (suc (length front)) c ≡ receipt_at h place
unfolding receipt_at
at_place h zero front c low high is there = absurd (omega (arith, low))
at_place h (suc n) front c low high is there =
    let before : suc n - 1 ≡ n = omega arith in
    let here : slice_get h n ≡ Some c = slice_get-get_or h n c (omega (arith, high)) ∙ ap (λ (x : Change). Some x) (sym (subst (λ (i : ℕ). c ≡ get_or h i c) before there)) in
    let cut : front ≡ take n h = subst (λ (i : ℕ). front ≡ take i h) before is in
    rw (cut, here, cut_length h n high, cut_behind h n c here) refl
