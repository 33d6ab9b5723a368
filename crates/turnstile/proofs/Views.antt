-- The views of all seats, after a change of one.
use Rattle.std.proofs.Common.{◌≡◌, ℕ, zero, suc, ◌+◌, ◌%◌, ◌^◌, ◌<◌, ◌≤◌, ◌≢◌, List, [], ◌∷◌, set, sym, refl, ap, ◌∙◌, subst, ⊎_elim, arith, le_refl}
use mathlib.Core.Option.{some, some-injective, some-ne-none}
use mathlib.Core.Logic.{dite}
use native.Mathlib.Decide.{ℕ_discrete}
use lib.ListN.{get_elem?}
use Rattle.atomic_table.proofs.Lists.{at_set, set_else}
use Rattle.turnstile.specs.declared.view.View.{View}
use Rattle.turnstile.specs.declared.view.Stage.{Stage}
use Rattle.turnstile.specs.declared.view.Stage.TheVariants.{Idle, Waits, Holds, Hears}
use Rattle.turnstile.specs.Lists.{IsPrefix}
use Rattle.turnstile.specs.TurnRule.{FitsStage, Apart, Longest, Holder}
use Rattle.turnstile.specs.Views.{tickets, HasTicket, IsHolding}
use Rattle.turnstile.proofs.Beginnings.{prefix_trans}

-- the element that was set
pub set_at : {A : Type 0} (xs : List A) (i : ℕ) (v w : A) → get_elem? xs i ≡ some v → get_elem? (set xs i w) i ≡ some w
set_at [] i v w e = absurd (some-ne-none v (sym e))
set_at (x ∷ xs) zero v w e = refl
set_at (x ∷ xs) (suc i) v w e = set_at xs i v w e

module _ {E : Type 0} where
  pub few_tickets : (st : Stage E) → tickets st ≤ 1
  few_tickets Idle = omega arith
  few_tickets (Waits n) = omega arith
  few_tickets (Holds n base) = omega arith
  few_tickets (Hears a b) = omega arith

  -- a seat with a ticket counts for one at least
  pub tickets_shared : (v : View E) → (v.share ≡ 0 → (v.mine ≡ []) × (v.stage ≡ Idle)) → tickets v.stage ≤ v.share
  tickets_shared v h = dite (ℕ_discrete v.share 0) (λ e. let x : tickets v.stage ≡ 0 = ap tickets (h e).1 in omega arith) (λ n. let x = few_tickets v.stage in omega arith)

  -- the number of a ticket
  pub numbered : (now next : ℕ) (log : List E) (out : Type 0) (st : Stage E) (t : ℕ) → FitsStage now next log out st → HasTicket t st → (k : ℕ) × (k % 2 ^ 64 ≡ t) × (now ≤ k) × (k < next)
  numbered now next log out Idle t f h = absurd h
  numbered now next log out (Waits n) t f h = (f.0, f.1 ∙ h, f.2, f.3)
  numbered now next log out (Holds n base) t f h = (now, f.0 ∙ h, le_refl now, f.1)
  numbered now next log out (Hears a b) t f h = absurd h

  -- the seat with the turn has the ticket that is served
  pub holder_ticket : (now next : ℕ) (log : List E) (out : Type 0) (st : Stage E) → FitsStage now next log out st → IsHolding st → HasTicket (now % 2 ^ 64) st
  holder_ticket now next log out Idle f h = absurd h
  holder_ticket now next log out (Waits n) f h = absurd h
  holder_ticket now next log out (Holds n base) f h = sym f.0
  holder_ticket now next log out (Hears a b) f h = absurd h

  -- what a stage says stays where more tickets are given out
  pub later_stage : (now next next' : ℕ) (log : List E) (out out' : Type 0) (st : Stage E) → next ≤ next' → (out → out') → FitsStage now next log out st → FitsStage now next' log out' st
  later_stage now next next' log out out' Idle le o f = tt
  later_stage now next next' log out out' (Waits n) le o f = let h : f.0 < next = f.3 in (f.0, f.1, f.2, omega arith)
  later_stage now next next' log out out' (Holds n base) le o f = let h : now < next = f.1 in (f.0, omega arith, f.2, o f.3)
  later_stage now next next' log out out' (Hears a b) le o f = f

  -- what the stage says of a seat that is behind the one with the turn stays where the history grows, and where the turn goes on by one
  pub behind : (now now' next : ℕ) (log log' : List E) (out out' : Type 0) (st : Stage E) → now' ≤ now + 1 → IsPrefix log log' → ¬ HasTicket (now % 2 ^ 64) st → FitsStage now next log out st → FitsStage now' next log' out' st
  behind now now' next log log' out out' Idle le p no_turn f = tt
  behind now now' next log log' out out' (Waits n) le p no_turn f =
      let other : f.0 ≢ now = λ e. no_turn (sym f.1 ∙ ap (λ k. k % 2 ^ 64) e) in
      let h : now ≤ f.0 = f.2 in
      (f.0, f.1, omega arith, f.3)
  behind now now' next log log' out out' (Holds n base) le p no_turn f = absurd (no_turn (sym f.0))
  behind now now' next log log' out out' (Hears a b) le p no_turn f = (prefix_trans a log log' f.0 p, prefix_trans b log log' f.1 p)

  pub each_set : (P : View E → Type 0) (views : List (View E)) (i : ℕ) (w : View E) → P w → ((j : ℕ) (u : View E) → j ≢ i → get_elem? views j ≡ some u → P u) → (j : ℕ) (u : View E) → get_elem? (set views i w) j ≡ some u → P u
  each_set P views i w here others j u e = ⊎_elim (λ t. subst P t.1 here) (λ t. others j u t.0 t.1) (at_set views i j w u e)

  pub apart_set : (views : List (View E)) (i : ℕ) (w : View E) → Apart views → ((t j : ℕ) (u : View E) → HasTicket t w.stage → j ≢ i → get_elem? views j ≡ some u → ¬ HasTicket t u.stage) → Apart (set views i w)
  apart_set views i w apart alone j k u x t e d p q =
      ⊎_elim
      (λ a.
      ⊎_elim
      (λ b. a.0 ∙ sym b.0)
      (λ b. absurd (alone t k x (subst (λ (v : View E). HasTicket t v.stage) (sym a.1) p) b.0 b.1 q))
      (at_set views i k w x d))
      (λ a.
      ⊎_elim
      (λ b. absurd (alone t j u (subst (λ (v : View E). HasTicket t v.stage) (sym b.1) q) a.0 a.1 p))
      (λ b. apart j k u x t a.1 b.1 p q)
      (at_set views i k w x d))
      (at_set views i j w u e)

  -- some seat has seen the whole history, also after a change of one that sees no less
  pub longest_set : (log : List E) (views : List (View E)) (i : ℕ) (v w : View E) → get_elem? views i ≡ some v → (0 < v.share → v.seen ≡ log → (0 < w.share) × (w.seen ≡ log)) → Longest log views → Longest log (set views i w)
  longest_set log views i v w at keeps l =
      dite (ℕ_discrete l.0 i)
      (λ e.
      let same : l.1 ≡ v = some-injective l.1 v (sym l.2 ∙ ap (get_elem? views) e ∙ at) in
      let k = keeps (subst (λ (u : View E). 0 < u.share) same l.3) (ap (λ (u : View E). u.seen) (sym same) ∙ l.4) in
      (i, w, set_at views i v w at, k.0, k.1))
      (λ n. (l.0, l.1, set_else views i l.0 w n ∙ l.2, l.3, l.4))

  pub longest_here : (log : List E) (views : List (View E)) (i : ℕ) (v w : View E) → get_elem? views i ≡ some v → 0 < w.share → w.seen ≡ log → Longest log (set views i w)
  longest_here log views i v w at some_share e = (i, w, set_at views i v w at, some_share, e)

  pub holder_set : (views : List (View E)) (i : ℕ) (v w : View E) → get_elem? views i ≡ some v → (IsHolding v.stage → IsHolding w.stage) → Holder views → Holder (set views i w)
  holder_set views i v w at keeps l =
      dite (ℕ_discrete l.0 i)
      (λ e.
      let same : l.1 ≡ v = some-injective l.1 v (sym l.2 ∙ ap (get_elem? views) e ∙ at) in
      (i, w, set_at views i v w at, keeps (subst (λ (u : View E). IsHolding u.stage) same l.3)))
      (λ n. (l.0, l.1, set_else views i l.0 w n ∙ l.2, l.3))

  pub holder_here : (views : List (View E)) (i : ℕ) (v w : View E) → get_elem? views i ≡ some v → IsHolding w.stage → Holder (set views i w)
  holder_here views i v w at holds = (i, w, set_at views i v w at, holds)
