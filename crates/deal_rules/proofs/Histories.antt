-- The last change of a history, and histories that grow by a change.
use Rattle.std.proofs.Common.{◌≡◌, ℕ, zero, suc, ◌-◌, ◌<◌, ◌≤◌, List, [], ◌∷◌, ◌++◌, length, take, get_or, refl, sym, subst, append_assoc, arith}
use Rattle.std.proofs.lemmas.List.{append-nil}
use Rattle.deal_changes.specs.declared.change.Change.{Change}
use Rattle.deal_changes.specs.Times.{time_of_change}
use Rattle.deal_model.specs.Views.{History, time_of, AreTimely}
use Rattle.deal_model.specs.Rules.{Allowed, AllowedFrom}

pub last_time : (h : History) (d : Change) → 1 ≤ length h → time_of h ≡ time_of_change (get_or h (length h - 1) d)
last_time [] d le = absurd (omega arith)
last_time (c ∷ []) d le = refl
last_time (c ∷ e ∷ h) d le = let place : length (c ∷ e ∷ h) - 1 ≡ suc (length (e ∷ h) - 1) = omega arith in rw place (last_time (e ∷ h) d (omega arith))

-- a change that is allowed behind them joins them
pub from_push : (before cs : List Change) (c : Change) → AllowedFrom before cs → Allowed (before ++ cs) c → AllowedFrom before (cs ++ c ∷ [])
from_push before [] c each allowed = (subst (λ (g : History). Allowed g c) (append-nil before) allowed, tt)
from_push before (d ∷ cs) c each allowed = (each.0, from_push (before ++ d ∷ []) cs c each.1 (subst (λ (g : History). Allowed g c) (sym (append_assoc before (d ∷ []) cs)) allowed))

-- each of them is allowed after those before it
pub allowed_at : (before cs : List Change) (i : ℕ) (d : Change) → AllowedFrom before cs → i < length cs → Allowed (before ++ take i cs) (get_or cs i d)
allowed_at before [] i d each lt = absurd (omega arith)
allowed_at before (c ∷ cs) zero d each lt = subst (λ (g : History). Allowed g c) (sym (append-nil before)) each.0
allowed_at before (c ∷ cs) (suc i) d each lt = subst (λ (g : History). Allowed g (get_or cs i d)) (append_assoc before (c ∷ []) (take i cs)) (allowed_at (before ++ c ∷ []) cs i d each.1 (omega arith))

pub timely_from : (before cs : List Change) → AllowedFrom before cs → AreTimely cs
timely_from before [] each = tt
timely_from before (c ∷ cs) each = (each.0.bounded, timely_from (before ++ c ∷ []) cs each.1)
