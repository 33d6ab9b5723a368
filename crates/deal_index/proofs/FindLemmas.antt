-- What a walk finds is the change at its place.
use Rattle.std.proofs.Common.{◌≡◌, ℕ, suc, ◌+◌, ◌-◌, Bool, true, false, cond, [], ◌∷◌, Option, Some, None, refl, sym, ◌∙◌, ap, arith}
use Rattle.std.specs.Prelude.{find, slice_get, option_map, option_and_then}
use Rattle.std.specs.List.{position_from}
use Rattle.deal_changes.specs.declared.change.Change.{Change}
use Rattle.deal_model.specs.Views.{History}
use Rattle.deal_index.specs.Places.{place_of, change_at}

abbrev first_at : (Change → Bool) → History → Option ℕ
first_at test [] = None
first_at test (x ∷ h) = cond (test x) (Some 0) (option_map suc (first_at test h))

shifted : (n : ℕ) (o : Option ℕ) → option_map (λ i. i + (n + 1)) o ≡ option_map (λ i. i + n) (option_map suc o)
shifted n None = refl
shifted n (Some i) = ap Some (omega arith)

from_first : (test : Change → Bool) (n : ℕ) (h : History) → position_from test n h ≡ option_map (λ i. i + n) (first_at test h)
from_first test n [] = refl
from_first test n (x ∷ h) = elim (test x) as (λ v. cond v (Some n) (position_from test (n + 1) h) ≡ option_map (λ i. i + n) (cond v (Some 0) (option_map suc (first_at test h)))) [
  | true ↦ ap Some (omega arith)
  | false ↦ from_first test (n + 1) h ∙ shifted n (first_at test h)
]

behind : (x : Change) (h : History) (o : Option ℕ) → option_and_then (slice_get h) o ≡ option_and_then (slice_get (x ∷ h)) (option_map suc o)
behind x h None = refl
behind x h (Some i) = refl

found_first : (test : Change → Bool) (h : History) → find test h ≡ option_and_then (slice_get h) (first_at test h)
found_first test [] = refl
found_first test (x ∷ h) = elim (test x) as (λ v. cond v (Some x) (find test h) ≡ option_and_then (slice_get (x ∷ h)) (cond v (Some 0) (option_map suc (first_at test h)))) [
  | true ↦ refl
  | false ↦ found_first test h ∙ behind x h (first_at test h)
]

less_one : (i : ℕ) → i + 1 - 1 ≡ i
less_one i = omega arith

placed : (h : History) (o : Option ℕ) → option_and_then (change_at h) (option_map (λ i. i + 1) o) ≡ option_and_then (slice_get h) o
placed h None = refl
placed h (Some i) = ap (slice_get h) (less_one i)

-- the first change that passes is the one at its place
pub found_at : (test : Change → Bool) (h : History) → option_and_then (change_at h) (place_of test h) ≡ find test h
found_at test h = ap (λ (o : Option ℕ). option_and_then (change_at h) o) (from_first test 1 h) ∙ placed h (first_at test h) ∙ sym (found_first test h)
