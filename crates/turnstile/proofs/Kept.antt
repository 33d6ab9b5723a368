-- The rule of a turnstile after a change of one seat, and what the rule says of a seat.
use Rattle.std.proofs.Common.{◌≡◌, ℕ, ◌+◌, ◌%◌, ◌^◌, ◌<◌, ◌≤◌, ◌≢◌, List, [], ◌∷◌, length, set, sym, ap, ◌∙◌, subst, ⊎_elim, arith, Option, Some, slice_index}
use mathlib.Core.Option as maybe
use mathlib.Core.Option.{none, some, some-injective, some-ne-none}
use lib.ListN.{get_elem?}
use Rattle.atomic_table.specs.Table.{State}
use Rattle.turnstile.specs.declared.view.View.{View}
use Rattle.turnstile.specs.declared.view.Stage.TheVariants.{Waits}
use Rattle.turnstile.specs.Lists.{times, once}
use Rattle.turnstile.specs.TurnRule.{FitsStage, Fits, Longest, Slot, TurnRule}
use Rattle.turnstile.specs.Views.{tickets, HasTicket, IsHolding}
use Rattle.turnstile.proofs.Totals.{total_set, total_le}
use Rattle.turnstile.proofs.Views.{tickets_shared, holder_ticket, each_set, apart_set}

module _ {T E : Type 0} (history : T → List E) (kept : T → Type 0) {seats opening : ℕ} (s : State (Option T) (View E)) (h : TurnRule history kept seats opening s) where
  -- the three words
  pub word_0 : slice_index s.words 0 ≡ h.next % 2 ^ 64
  word_0 = ap (λ (l : List ℕ). slice_index l 0) h.words

  pub word_1 : slice_index s.words 1 ≡ h.now % 2 ^ 64
  word_1 = ap (λ (l : List ℕ). slice_index l 1) h.words

  pub word_2 : slice_index s.words 2 ≡ length h.log % 2 ^ 64
  word_2 = ap (λ (l : List ℕ). slice_index l 2) h.words

  -- no more tickets are out than there are seats
  pub room : h.next ≤ h.now + seats
  room =
      let line = h.line in
      let shares = h.shares in
      let le = total_le (λ (v : View E). tickets v.stage) (λ (v : View E). v.share) s.views (λ i v at. tickets_shared v (h.each i v at).spent) in
      omega arith

  -- The rule after a change of one seat, of the words and of the slot
  pub kept_set : (words : List ℕ) (homes : List (maybe.Option (Option T))) (id : ℕ) (v w : View E) (now next : ℕ) (log : List E)
      → get_elem? s.views id ≡ some v
      → words ≡ next % 2 ^ 64 ∷ now % 2 ^ 64 ∷ length log % 2 ^ 64 ∷ []
      → now + h.next + tickets w.stage ≡ next + h.now + tickets v.stage
      → w.share ≡ v.share
      → opening ≤ length log
      → ((p : ℕ) → times p w.mine + once opening (length h.log) p ≡ times p v.mine + once opening (length log) p)
      → Fits now next log (homes ≡ none ∷ []) w
      → ((j : ℕ) (u : View E) → j ≢ id → get_elem? s.views j ≡ some u → Fits now next log (homes ≡ none ∷ []) u)
      → ((t j : ℕ) (u : View E) → HasTicket t w.stage → j ≢ id → get_elem? s.views j ≡ some u → ¬ HasTicket t u.stage)
      → Longest log (set s.views id w)
      → Slot history kept log (set s.views id w) homes
      → TurnRule history kept seats opening (record { words = words; homes = homes; views = set s.views id w })
  kept_set words homes id v w now next log at is line share later places here others alone longest slot = record {
    now = now;
    next = next;
    log = log;
    words = is;
    few = h.few;
    line = (let e = total_set (λ (u : View E). tickets u.stage) s.views id v w at in let l = h.line in omega arith);
    shares = (let e = total_set (λ (u : View E). u.share) s.views id v w at in let l = h.shares in omega arith);
    later = later;
    places = (λ p. let e = total_set (λ (u : View E). times p u.mine) s.views id v w at in let l = h.places p in let k = places p in omega arith);
    each = each_set (Fits now next log (homes ≡ none ∷ [])) s.views id w here others;
    apart = apart_set s.views id w h.apart alone;
    longest = longest;
    slot = slot;
  }

  -- where a seat waits, a ticket is served that is out
  pub served : (id : ℕ) (v : View E) (k : ℕ) → get_elem? s.views id ≡ some v → v.stage ≡ Waits k → h.now < h.next
  served id v k at waits =
      let f = subst (FitsStage h.now h.next h.log (s.homes ≡ none ∷ [])) waits (h.each id v at).stage in
      let low : h.now ≤ f.0 = f.2 in
      let high : f.0 < h.next = f.3 in
      omega arith

  -- the value is at home where the ticket that is served is that of a seat that waits
  pub at_home : (id : ℕ) (v : View E) (k : ℕ) → get_elem? s.views id ≡ some v → v.stage ≡ Waits k → h.now % 2 ^ 64 ≡ k → (y : T) × (s.homes ≡ some (Some y) ∷ []) × (history y ≡ h.log) × kept y
  at_home id v k at waits found =
      ⊎_elim
      (λ home. home)
      (λ out.
      let l = out.1 in
      let held = holder_ticket h.now h.next h.log (s.homes ≡ none ∷ []) l.1.stage (h.each l.0 l.1 l.2).stage l.3 in
      let mine : HasTicket (h.now % 2 ^ 64) v.stage = subst (HasTicket (h.now % 2 ^ 64)) (sym waits) (sym found) in
      let one = h.apart l.0 id l.1 v (h.now % 2 ^ 64) l.2 at held mine in
      let same : l.1 ≡ v = some-injective l.1 v (sym l.2 ∙ ap (get_elem? s.views) one ∙ at) in
      absurd (subst IsHolding (ap (λ (u : View E). u.stage) same ∙ waits) l.3))
      h.slot

  -- no other seat has the ticket of this one
  pub no_other : (id : ℕ) (v : View E) (t : ℕ) → get_elem? s.views id ≡ some v → HasTicket t v.stage → (j : ℕ) (u : View E) → j ≢ id → get_elem? s.views j ≡ some u → ¬ HasTicket t u.stage
  no_other id v t at mine j u other e theirs = other (h.apart j id u v t e at theirs mine)
