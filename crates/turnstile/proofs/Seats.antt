-- A seat is split and two are joined under the rule, and the rule at the start and at the end.
use Rattle.std.proofs.Common.{◌≡◌, ℕ, zero, suc, ◌+◌, ◌^◌, ◌<◌, ◌≤◌, ◌≢◌, ◌⊎◌, List, [], ◌∷◌, ◌++◌, length, set, sym, refl, ap, ◌∙◌, subst, inl, inr, ⊎_elim, arith, Option, Some, mod-eq_of_lt}
use mathlib.Core.Option as maybe
use mathlib.Core.Option.{none, some, some-injective, some-ne-none}
use mathlib.Core.Logic.{dite}
use native.Mathlib.Decide.{ℕ_discrete}
use lib.ListN.{get_elem?}
use Rattle.atomic_table.specs.Table.{State, Splits, Joins, Final, Seen, opening}
use Rattle.atomic_table.proofs.Lists.{at_snoc, at_longer, set_else}
use Rattle.turnstile.specs.declared.view.View.{View}
use Rattle.turnstile.specs.declared.view.Stage.TheVariants.{Idle}
use Rattle.turnstile.specs.Lists.{times, once}
use Rattle.turnstile.specs.TurnRule.{Fits, Apart, Longest, Holder, TurnRule}
use Rattle.turnstile.specs.Views.{tickets, HasTicket, IsHolding, newcomer, one_less, one_more, hearing, spent}
use Rattle.turnstile.proofs.Totals.{total_set, total_snoc, total_two, total_only, times_append}
use Rattle.turnstile.proofs.Beginnings.{prefix_self, longer_prefix, longer_whole}
use Rattle.turnstile.proofs.Places.{once_none}
use Rattle.turnstile.proofs.Counting.{places_count}
use Rattle.turnstile.proofs.Views.{set_at, each_set, apart_set, longest_set, holder_set}

module _ {E : Type 0} where
  apart_snoc : (views : List (View E)) (w : View E) → Apart views → ((t : ℕ) → ¬ HasTicket t w.stage) → Apart (views ++ w ∷ [])
  apart_snoc views w apart without i j u x t e d p q =
      ⊎_elim
      (λ a. ⊎_elim (λ b. apart i j u x t a b p q) (λ b. absurd (without t (subst (λ (v : View E). HasTicket t v.stage) (sym b) q))) (at_snoc views w x j d))
      (λ a. absurd (without t (subst (λ (v : View E). HasTicket t v.stage) (sym a) p)))
      (at_snoc views w u i e)

  longest_snoc : (log : List E) (views : List (View E)) (w : View E) → Longest log views → Longest log (views ++ w ∷ [])
  longest_snoc log views w l = (l.0, l.1, at_longer views (w ∷ []) l.0 l.1 l.2, l.3, l.4)

  holder_snoc : (views : List (View E)) (w : View E) → Holder views → Holder (views ++ w ∷ [])
  holder_snoc views w l = (l.0, l.1, at_longer views (w ∷ []) l.0 l.1 l.2, l.3)

  -- after a join the seat that was joined to has seen the whole history, where one of the two had
  longest_join : (log : List E) (views : List (View E)) (i j : ℕ) (v w both rest : View E) → get_elem? views i ≡ some v → get_elem? views j ≡ some w → j ≢ i
      → 0 < both.share → ((v.seen ≡ log) ⊎ (w.seen ≡ log) → both.seen ≡ log) → Longest log views → Longest log (set (set views i both) j rest)
  longest_join log views i j v w both rest at_i at_j other some_share whole l =
      let there : get_elem? (set (set views i both) j rest) i ≡ some both = set_else (set views i both) j i rest (λ e. other (sym e)) ∙ set_at views i v both at_i in
      dite (ℕ_discrete l.0 i)
      (λ e.
      let same : l.1 ≡ v = some-injective l.1 v (sym l.2 ∙ ap (get_elem? views) e ∙ at_i) in
      (i, both, there, some_share, whole (inl (ap (λ (u : View E). u.seen) (sym same) ∙ l.4))))
      (λ n.
      dite (ℕ_discrete l.0 j)
      (λ e.
      let same : l.1 ≡ w = some-injective l.1 w (sym l.2 ∙ ap (get_elem? views) e ∙ at_j) in
      (i, both, there, some_share, whole (inr (ap (λ (u : View E). u.seen) (sym same) ∙ l.4))))
      (λ m. (l.0, l.1, set_else (set views i both) j l.0 rest m ∙ set_else views i l.0 both n ∙ l.2, l.3, l.4)))

module _ {T E : Type 0} (history : T → List E) (kept : T → Type 0) (seats opened : ℕ) where
  abbrev K : State (Option T) (View E) → Type 0
  K = TurnRule history kept seats opened

  -- splitting a seat off
  pub splits : (id : ℕ) (v : View E) → v.stage ≡ Idle → 2 ≤ v.share → Splits K id v (one_less v) (one_more v)
  splits id v idle enough s h at =
      let left : View E = one_less v in
      let right : View E = one_more v in
      let views : List (View E) = set s.views id left in
      let out : Type 0 = s.homes ≡ none ∷ [] in
      let f = h.each id v at in
      record {
        now = h.now;
        next = h.next;
        log = h.log;
        words = h.words;
        few = h.few;
        line = (let e = total_set (λ (u : View E). tickets u.stage) s.views id v left at in let d = total_snoc (λ (u : View E). tickets u.stage) views right in let l = h.line in omega arith);
        shares = (let e = total_set (λ (u : View E). u.share) s.views id v left at in let d = total_snoc (λ (u : View E). u.share) views right in let l = h.shares in omega arith);
        later = h.later;
        places = (λ p. let e = total_set (λ (u : View E). times p u.mine) s.views id v left at in let d = total_snoc (λ (u : View E). times p u.mine) views right in let l = h.places p in omega arith);
        each = (λ j u e.
            ⊎_elim
            (λ a. each_set (Fits h.now h.next h.log out) s.views id left (record { stage = f.stage; seen = f.seen; spent = λ z. absurd (omega arith) }) (λ k x _ b. h.each k x b) j u a)
            (λ a. subst (Fits h.now h.next h.log out) a (record { stage = tt; seen = f.seen; spent = λ z. absurd (omega arith) }))
            (at_snoc views right u j e));
        apart = apart_snoc views right (apart_set s.views id left h.apart (λ t j u mine _ _. absurd (subst (HasTicket t) idle mine))) (λ t. λ x. absurd x);
        longest = longest_snoc h.log views right (longest_set h.log s.views id v left at (λ a b. (omega arith, b)) h.longest);
        slot = ⊎_elim (λ x. inl x) (λ x. inr (x.0, holder_snoc views right (holder_set s.views id v left at (λ hold. hold) x.1))) h.slot;
      }

  -- joining a seat to another
  pub joins : (id other : ℕ) (v w : View E) → v.stage ≡ Idle → w.stage ≡ Idle → 0 < v.share → Joins K id v other w (hearing v w) spent
  joins id other v w idle_v idle_w some_share s h at_v apart at_set_w =
      let at_w : get_elem? s.views other ≡ some w = sym (set_else s.views id other (hearing v w) apart) ∙ at_set_w in
      let both : View E = hearing v w in
      let views : List (View E) = set s.views id both in
      let out : Type 0 = s.homes ≡ none ∷ [] in
      let f = h.each id v at_v in
      let g = h.each other w at_w in
      let v_none : tickets v.stage ≡ 0 = ap tickets idle_v in
      let w_none : tickets w.stage ≡ 0 = ap tickets idle_w in
      record {
        now = h.now;
        next = h.next;
        log = h.log;
        words = h.words;
        few = h.few;
        line = (let e = total_set (λ (u : View E). tickets u.stage) s.views id v both at_v in let d = total_set (λ (u : View E). tickets u.stage) views other w spent at_set_w in let l = h.line in omega arith);
        shares = (let e = total_set (λ (u : View E). u.share) s.views id v both at_v in let d = total_set (λ (u : View E). u.share) views other w spent at_set_w in let l = h.shares in omega arith);
        later = h.later;
        places = (λ p. let e = total_set (λ (u : View E). times p u.mine) s.views id v both at_v in let d = total_set (λ (u : View E). times p u.mine) views other w spent at_set_w in let a = times_append p v.mine w.mine in let l = h.places p in omega arith);
        each = each_set (Fits h.now h.next h.log out) views other spent
            (record { stage = tt; seen = (h.log, refl); spent = λ z. (refl, refl) })
            (λ j u _ a. each_set (Fits h.now h.next h.log out) s.views id both (record { stage = (f.seen, g.seen); seen = longer_prefix v.seen w.seen h.log f.seen g.seen; spent = λ z. absurd (omega arith) }) (λ k x _ b. h.each k x b) j u a);
        apart = apart_set views other spent (apart_set s.views id both h.apart (λ t j u mine _ _. absurd mine)) (λ t j u mine _ _. absurd mine);
        longest = longest_join h.log s.views id other v w both spent at_v at_w apart (omega arith) (longer_whole v.seen w.seen h.log f.seen g.seen) h.longest;
        slot = ⊎_elim (λ x. inl x) (λ x. inr (x.0, holder_set views other w spent at_set_w (λ hold. absurd (subst IsHolding idle_w hold)) (holder_set s.views id v both at_v (λ hold. absurd (subst IsHolding idle_v hold)) x.1))) h.slot;
      }

only_first : {E : Type 0} (v : View E) (i : ℕ) (u : View E) (P : View E → Type 0) → P v → get_elem? (v ∷ []) i ≡ some u → P u
only_first v zero u P p e = subst P (some-injective v u e) p
only_first v (suc i) u P p e = absurd (some-ne-none u (sym e))

-- the rule at the start
pub opens : {T E : Type 0} (history : T → List E) (kept : T → Type 0) (seats : ℕ) (value : T) → kept value → 0 < seats → seats < 2 ^ 32 → length (history value) < 2 ^ 64
    → TurnRule history kept seats (length (history value)) (opening (0 ∷ 0 ∷ length (history value) ∷ []) (Some value ∷ []) (newcomer (history value) seats))
opens {T} {E} history kept seats value keeping some_seats few short =
    let log : List E = history value in
    let v : View E = newcomer log seats in
    record {
      now = 0;
      next = 0;
      log = log;
      words = (λ k. 0 ∷ 0 ∷ sym (mod-eq_of_lt short) k ∷ []);
      few = few;
      line = refl;
      shares = omega arith;
      later = omega arith;
      places = (λ p. let o = once_none (length log) p in omega arith);
      each = (λ i u e. only_first v i u (λ x. Fits 0 0 log (some (Some value) ∷ [] ≡ none ∷ []) x) (record { stage = tt; seen = prefix_self log; spent = λ z. absurd (omega arith) }) e);
      apart = (λ i j u x t e d p q. absurd (only_first v i u (λ y. ¬ HasTicket t y.stage) (λ y. absurd y) e p));
      longest = (0, v, refl, some_seats, refl);
      slot = inl (value, refl, refl, keeping);
    }

-- what the rule says at the end, when one seat counts for all
pub record Closed {T E : Type 0} (history : T → List E) (kept : T → Type 0) (opened : ℕ) (v : View E) (slot : Option T) : Type 0 where
  pub value : T
  pub there : slot ≡ Some value
  pub held : kept value
  pub seen : history value ≡ v.seen
  pub mine : (p : ℕ) → times p v.mine ≡ once opened (length (history value)) p
  pub count : opened + length v.mine ≡ length (history value)

-- a seat without a ticket that counts for all, at the end
module _ {T E : Type 0} (history : T → List E) (kept : T → Type 0) {seats opened : ℕ} (s : State (Option T) (View E)) (h : TurnRule history kept seats opened s) (id : ℕ) (v : View E) (at : get_elem? s.views id ≡ some v) (all : v.share ≡ seats) where
  -- no other seat counts for any
  alone : (j : ℕ) (u : View E) → j ≢ id → get_elem? s.views j ≡ some u → u.share ≡ 0
  alone j u other a = let t = total_two (λ (x : View E). x.share) s.views j id u v other a at in let l = h.shares in omega arith

  -- it has seen the whole history
  whole : v.seen ≡ h.log
  whole =
      let i : ℕ = h.longest.0 in
      let u : View E = h.longest.1 in
      let at_u : get_elem? s.views i ≡ some u = h.longest.2 in
      let shares : 0 < u.share = h.longest.3 in
      dite (ℕ_discrete i id)
      (λ e. let same : v ≡ u = some-injective v u (sym at ∙ sym (ap (get_elem? s.views) e) ∙ at_u) in ap (λ (x : View E). x.seen) same ∙ h.longest.4)
      (λ n. let none_left = alone i u n at_u in absurd (omega arith))

  -- the places are its own
  only_places : (p : ℕ) → times p v.mine ≡ once opened (length h.log) p
  only_places p =
      let t = total_only (λ (u : View E). times p u.mine) s.views id v at (λ j u other a. ap (times p) ((h.each j u a).spent (alone j u other a)).0) in
      sym t ∙ h.places p

  -- no seat has the turn
  no_holder : v.stage ≡ Idle → ¬ Holder s.views
  no_holder idle x =
      let i : ℕ = x.0 in
      let u : View E = x.1 in
      let at_u : get_elem? s.views i ≡ some u = x.2 in
      dite (ℕ_discrete i id)
      (λ e. let same : u ≡ v = some-injective u v (sym at_u ∙ ap (get_elem? s.views) e ∙ at) in subst IsHolding (ap (λ (y : View E). y.stage) same ∙ idle) x.3)
      (λ n. subst IsHolding ((h.each i u at_u).spent (alone i u n at_u)).1 x.3)

  -- the value is at home
  at_the_end : v.stage ≡ Idle → (y : T) × (s.homes ≡ some (Some y) ∷ []) × (history y ≡ h.log) × kept y
  at_the_end idle = ⊎_elim (λ x. x) (λ x. absurd (no_holder idle x.1)) h.slot

  -- what is known of the value that lies in the slot
  closed_at : (y : T) (slot : Option T) → slot ≡ Some y → history y ≡ h.log → kept y → Closed history kept opened v slot
  closed_at y slot there is keeping =
      let n : ℕ = length (history y) in
      let same : length h.log ≡ n = ap length (sym is) in
      let places : (p : ℕ) → times p v.mine ≡ once opened n p = subst (λ k. (p : ℕ) → times p v.mine ≡ once opened k p) same only_places in
      record {
        value = y;
        there = there;
        held = keeping;
        seen = is ∙ sym whole;
        mine = places;
        count = places_count opened n v.mine (subst (λ k. opened ≤ k) same h.later) places;
      }

pub closes : {T E : Type 0} (history : T → List E) (kept : T → Type 0) (seats opened id : ℕ) (v : View E) (words : List ℕ) (slots : List (Option T)) (slot : Option T)
    → v.stage ≡ Idle → v.share ≡ seats → get_elem? slots 0 ≡ some slot → Final (Seen (TurnRule history kept seats opened) id v) words slots → Closed history kept opened v slot
closes {T} {E} history kept seats opened id v words slots slot idle all at_slot final =
    let s = final.0 in
    let h : TurnRule history kept seats opened s = final.1.0 in
    let at : get_elem? s.views id ≡ some v = final.1.1 in
    let home = at_the_end history kept s h id v at all idle in
    let y : T = home.0 in
    let at_home : get_elem? s.homes 0 ≡ some (some (Some y)) = ap (λ (hs : List (maybe.Option (Option T))). get_elem? hs 0) home.1 in
    let there : slot ≡ Some y = some-injective slot (Some y) (sym at_slot ∙ final.4 0 (Some y) at_home) in
    closed_at history kept s h id v at all y slot there home.2 home.3

-- the rule at the start, of a copy of the value and of what was stored
pub opens_as : {T E : Type 0} (history : T → List E) (kept : T → Type 0) (seats : ℕ) (value copy : T) (len : ℕ) (slots : List (Option T)) → 0 < seats → seats < 2 ^ 32 → len < 2 ^ 64 → len ≡ length (history value) → copy ≡ value → slots ≡ Some value ∷ [] → kept value
    → TurnRule history kept seats (length (history copy)) (opening (0 ∷ 0 ∷ len ∷ []) slots (newcomer (history copy) seats))
opens_as {T} {E} history kept seats value copy len slots some_seats few short is same stored keeping =
    let at_value = opens history kept seats value keeping some_seats few (subst (λ n. n < 2 ^ 64) is short) in
    let at_length = subst (λ n. TurnRule history kept seats (length (history value)) (opening (0 ∷ 0 ∷ n ∷ []) (Some value ∷ []) (newcomer (history value) seats))) (sym is) at_value in
    let at_slots = subst (λ (xs : List (Option T)). TurnRule history kept seats (length (history value)) (opening (0 ∷ 0 ∷ len ∷ []) xs (newcomer (history value) seats))) (sym stored) at_length in
    subst (λ (x : T). TurnRule history kept seats (length (history x)) (opening (0 ∷ 0 ∷ len ∷ []) slots (newcomer (history x) seats))) (sym same) at_slots

-- the value in the slot at the end is what is given out
pub closed_with : {T E : Type 0} (history : T → List E) (kept : T → Type 0) (opened : ℕ) (v : View E) (slot : Option T) (r : T) → Closed history kept opened v slot → slot ≡ Some r → (history r ≡ v.seen) × ((p : ℕ) → times p v.mine ≡ once opened (length (history r)) p) × (opened + length v.mine ≡ length (history r)) × kept r
closed_with {T} {E} history kept opened v slot r c is =
    let value : T = c.value in
    let there : slot ≡ Some value = c.there in
    let same : value ≡ r = cc in
    subst (λ (y : T). (history y ≡ v.seen) × ((p : ℕ) → times p v.mine ≡ once opened (length (history y)) p) × (opened + length v.mine ≡ length (history y)) × kept y) same (c.seen, c.mine, c.count, c.held)
