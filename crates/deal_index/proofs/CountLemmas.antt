-- Counts of a history with one more change, and its last change.
use Rattle.std.proofs.Common.{◌≡◌, ℕ, suc, ◌+◌, ◌-◌, ◌≤◌, Bool, cond, [], ◌∷◌, ◌++◌, length, get_or, refl, sym, ◌∙◌, ap, arith}
use Rattle.std.specs.Prelude.{count_by}
use Rattle.std.proofs.lemmas.List.Sums.{sum_by_push, count_by-le-length}
use Rattle.deal_changes.specs.declared.change.Change.{Change}
use Rattle.deal_changes.specs.Times.{time_of_change}
use Rattle.deal_model.specs.Views.{History, time_of}

pub counted : (test : Change → Bool) (h : History) (c : Change) (count : ℕ) → count ≡ count_by test h → count + cond (test c) 1 0 ≡ count_by test (h ++ c ∷ [])
counted test h c count e = ap (λ n. n + cond (test c) 1 0) e ∙ sym (sum_by_push (λ x. cond (test x) 1 0) h c)

pub within : (test : Change → Bool) (h : History) → count_by test h ≤ length h
within test h = count_by-le-length test h

pub last_time : (h : History) (d : Change) → 1 ≤ length h → time_of h ≡ time_of_change (get_or h (length h - 1) d)
last_time [] d le = absurd (omega arith)
last_time (c ∷ []) d le = refl
last_time (c ∷ e ∷ h) d le = let place : length (c ∷ e ∷ h) - 1 ≡ suc (length (e ∷ h) - 1) = omega arith in rw place (last_time (e ∷ h) d (omega arith))
