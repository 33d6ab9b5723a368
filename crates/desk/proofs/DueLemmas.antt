-- The next certificate, change by change.
use Rattle.std.proofs.Common.{◌≡◌, ℕ, ◌<◌, ◌≤◌, List, [], ◌∷◌, ◌++◌, Option, Some, None, refl, sym, ◌∙◌, ap, subst, append_assoc, arith}
use Rattle.std.specs.Prelude.{IfSome, nat_le}
use Rattle.std.specs.List.{AllByRecursion}
use Rattle.std.proofs.lemmas.Bool.{cond_both, leb-true, leb-false}
use Rattle.deal_changes.specs.declared.change.Change.{Change}
use Rattle.deal_model.specs.Views.{History}
use Rattle.desk.specs.declared.due.Due.{Due}
use Rattle.desk.specs.Due.{deadline_in, AllAfter, IsNext, NoneWaits, IsFoundNext, IsWaiting, sooner}

pub all_both : {X : Type 0} (P : X → Type 0) (xs ys : List X) → AllByRecursion P xs → AllByRecursion P ys → AllByRecursion P (xs ++ ys)
all_both P [] ys h i = i
all_both P (x ∷ xs) ys h i = (h.0, all_both P xs ys h.1 i)

pub all_less : {X : Type 0} (P Q : X → Type 0) → ((x : X) → P x → Q x) → (xs : List X) → AllByRecursion P xs → AllByRecursion Q xs
all_less P Q less [] h = tt
all_less P Q less (x ∷ xs) h = (less x h.0, all_less P Q less xs h.1)

abbrev After : History → ℕ → Change → Type 0
After h time c = IfSome (deadline_in h c) (λ d. time < d)

abbrev From : History → ℕ → Change → Type 0
From h time c = IfSome (deadline_in h c) (λ d. time ≤ d)

if_none : (P : ℕ → Type 0) (o : Option ℕ) → o ≡ None → IfSome o P
if_none P o none = subst (λ (x : Option ℕ). IfSome x P) (sym none) tt

if_some : (P : ℕ → Type 0) (o : Option ℕ) (d : ℕ) → o ≡ Some d → P d → IfSome o P
if_some P o d some p = subst (λ (x : Option ℕ). IfSome x P) (sym some) p

if_less : (P Q : ℕ → Type 0) (o : Option ℕ) → ((d : ℕ) → P d → Q d) → IfSome o P → IfSome o Q
if_less P Q None less p = tt
if_less P Q (Some d) less p = less d p

pub none_after : (h : History) (time : ℕ) (xs : List Change) → NoneWaits h xs → AllAfter h time xs
none_after h time xs none = all_less (λ c. deadline_in h c ≡ None) (After h time) (λ c e. if_none _ (deadline_in h c) e) xs none

-- after the next one come all
pub next_after : (h : History) (time : ℕ) (xs : List Change) (tid : List ℕ) (deadline : ℕ) → IsNext h xs tid deadline → time < deadline → AllAfter h time xs
next_after h time xs tid deadline n lt =
    let first = all_less (After h deadline) (After h time) (λ c p. if_less _ _ (deadline_in h c) (λ d l. omega (arith, l, lt)) p) n.before n.later in
    let last = all_less (From h deadline) (After h time) (λ c p. if_less _ _ (deadline_in h c) (λ d l. omega (arith, l, lt)) p) n.behind n.no_sooner in
    subst (λ (l : List Change). AllAfter h time l) (sym n.parts) (all_both (After h time) n.before (n.grant ∷ n.behind) first (if_some _ (deadline_in h n.grant) deadline n.waits lt, last))

first_next : (h : History) (xs : List Change) (c : Change) (due : Due) → AllAfter h due.deadline xs → IsWaiting h c (Some due) → IsNext h (xs ++ c ∷ []) due.tid due.deadline
first_next h xs c due after w = record { before = xs; grant = c; behind = []; parts = refl; waits = w.0; named = w.1; later = after; no_sooner = tt }

kept_next : (h : History) (xs : List Change) (c : Change) (due : Due) → IsNext h xs due.tid due.deadline → From h due.deadline c → IsNext h (xs ++ c ∷ []) due.tid due.deadline
kept_next h xs c due n from = record {
  before = n.before;
  grant = n.grant;
  behind = n.behind ++ c ∷ [];
  parts = ap (λ (l : List Change). l ++ c ∷ []) n.parts ∙ append_assoc n.before (n.grant ∷ n.behind) (c ∷ []);
  waits = n.waits;
  named = n.named;
  later = n.later;
  no_sooner = all_both (From h due.deadline) n.behind (c ∷ []) n.no_sooner (from, tt);
}

pub next_step : (h : History) (xs : List Change) (c : Change) (old new : Option Due) → IsFoundNext h xs old → IsWaiting h c new → IsFoundNext h (xs ++ c ∷ []) (sooner old new)
next_step h xs c None None found w = all_both (λ x. deadline_in h x ≡ None) xs (c ∷ []) found (w, tt)
next_step h xs c (Some due) None found w = kept_next h xs c due found (if_none _ (deadline_in h c) w)
next_step h xs c None (Some new) found w = first_next h xs c new (none_after h new.deadline xs found) w
next_step h xs c (Some due) (Some new) found w =
    cond_both (nat_le due.deadline new.deadline) (Some due) (Some new) (λ (x : Option Due). IsFoundNext h (xs ++ c ∷ []) x)
    (λ e. kept_next h xs c due found (if_some _ (deadline_in h c) new.deadline w.0 (leb-true due.deadline new.deadline e)))
    (λ e. first_next h xs c new (next_after h new.deadline xs due.tid due.deadline found (leb-false due.deadline new.deadline e)) w)
