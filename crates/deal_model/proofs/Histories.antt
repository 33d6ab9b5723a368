-- Legal histories, change by change.
use Rattle.std.proofs.Common.{◌≡◌, ◌≢◌, ℕ, zero, suc, ◌<◌, ◌≤◌, List, [], ◌∷◌, ◌++◌, take, Some, refl, sym, ap, subst, ◌∙◌, append_assoc, arith}
use Rattle.std.specs.List.{slice_get}
use Rattle.std.proofs.lemmas.List.{append-nil}
use Rattle.std.proofs.lemmas.Option.{same_Some, none-some}
use Rattle.deal_changes.specs.declared.change.Change.{Change}
use Rattle.deal_changes.specs.Times.{time_of_change}
use Rattle.deal_model.specs.Views.{History, time_of}
use Rattle.deal_model.specs.Rules.{Allowed, AllowedFrom, Legal}

-- each change of a legal history is allowed after those before it
pub allowed_at : (before cs : List Change) → AllowedFrom before cs → (i : ℕ) (c : Change) → slice_get cs i ≡ Some c → Allowed (before ++ take i cs) c
allowed_at before [] h i c e = absurd (none-some c e)
allowed_at before (x ∷ xs) h zero c e = subst (λ (v : Change). Allowed (before ++ []) v) (same_Some x c e) (subst (λ (b : List Change). Allowed b x) (sym (append-nil before)) h.0)
allowed_at before (x ∷ xs) h (suc i) c e = subst (λ (b : List Change). Allowed b c) (append_assoc before (x ∷ []) (take i xs)) (allowed_at (before ++ x ∷ []) xs h.1 i c e)

from_more : (before cs : List Change) (c : Change) → AllowedFrom before cs → Allowed (before ++ cs) c → AllowedFrom before (cs ++ c ∷ [])
from_more before [] c h a = (subst (λ (b : List Change). Allowed b c) (append-nil before) a, tt)
from_more before (x ∷ xs) c h a = (h.0, from_more (before ++ x ∷ []) xs c h.1 (subst (λ (b : List Change). Allowed b c) (sym (append_assoc before (x ∷ []) xs)) a))

some_push : (h : List Change) (c : Change) → h ++ c ∷ [] ≢ []
some_push [] c e = cc
some_push (x ∷ h) c e = cc

pub legal_more : (h : History) (c : Change) → Legal h → Allowed h c → Legal (h ++ c ∷ [])
legal_more h c l a = (some_push h c, from_more [] h c l.1 a)

pub from_take : (before cs : List Change) (n : ℕ) → AllowedFrom before cs → AllowedFrom before (take n cs)
from_take before cs zero h = tt
from_take before [] (suc n) h = tt
from_take before (x ∷ xs) (suc n) h = (h.0, from_take (before ++ x ∷ []) xs n h.1)

some_take : (h : List Change) (n : ℕ) → h ≢ [] → 1 ≤ n → take n h ≢ []
some_take h zero some one e = absurd (omega arith)
some_take [] (suc n) some one e = some refl
some_take (x ∷ xs) (suc n) some one e = cc

pub legal_take : (h : History) (n : ℕ) → Legal h → 1 ≤ n → Legal (take n h)
legal_take h n l one = (some_take h n l.0 one, from_take [] h n l.1)

-- ---- time

pub time_of_push : (h : History) (c : Change) → time_of (h ++ c ∷ []) ≡ time_of_change c
time_of_push [] c = refl
time_of_push (x ∷ []) c = refl
time_of_push (x ∷ y ∷ h) c = time_of_push (y ∷ h) c

times_from : (before cs : List Change) → AllowedFrom before cs → (q : ℕ) (d : Change) → slice_get cs q ≡ Some d → time_of before ≤ time_of_change d
times_from before [] h q d e = absurd (none-some d e)
times_from before (x ∷ xs) h zero d e = subst (λ (v : Change). time_of before ≤ time_of_change v) (same_Some x d e) h.0.later
times_from before (x ∷ xs) h (suc q) d e =
    let later : time_of (before ++ x ∷ []) ≤ time_of_change d = times_from (before ++ x ∷ []) xs h.1 q d e in
    let here : time_of (before ++ x ∷ []) ≡ time_of_change x = time_of_push before x in
    let first : time_of before ≤ time_of_change x = h.0.later in
    omega arith

pub never_falls : (before cs : List Change) → AllowedFrom before cs → (p q : ℕ) (c d : Change) → p ≤ q → slice_get cs p ≡ Some c → slice_get cs q ≡ Some d → time_of_change c ≤ time_of_change d
never_falls before [] h p q c d le e f = absurd (none-some c e)
never_falls before (x ∷ xs) h zero zero c d le e f =
    let same : c ≡ d = sym (same_Some x c e) ∙ same_Some x d f in
    omega (arith, ap time_of_change same)
never_falls before (x ∷ xs) h zero (suc q) c d le e f =
    let later : time_of (before ++ x ∷ []) ≤ time_of_change d = times_from (before ++ x ∷ []) xs h.1 q d f in
    let here : time_of (before ++ x ∷ []) ≡ time_of_change x = time_of_push before x in
    omega (arith, ap time_of_change (same_Some x c e))
never_falls before (x ∷ xs) h (suc p) zero c d le e f = absurd (omega arith)
never_falls before (x ∷ xs) h (suc p) (suc q) c d le e f = never_falls (before ++ x ∷ []) xs h.1 p q c d (omega arith) e f

-- ---- a history cut behind a change

pub cut_behind : (h : List Change) (p q : ℕ) (c : Change) → p < q → slice_get h p ≡ Some c → (more : List Change) × (take q h ≡ (take p h ++ c ∷ []) ++ more)
cut_behind h p zero c lt e = absurd (omega arith)
cut_behind [] p (suc q) c lt e = absurd (none-some c e)
cut_behind (x ∷ xs) zero (suc q) c lt e = (take q xs, ap (λ (v : Change). v ∷ take q xs) (same_Some x c e))
cut_behind (x ∷ xs) (suc p) (suc q) c lt e =
    let rest = cut_behind xs p q c (omega arith) e in
    (rest.0, ap (λ (l : List Change). x ∷ l) rest.1)
