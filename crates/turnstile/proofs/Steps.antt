-- Each step on a word keeps the rule, and tells what its play says.
use Rattle.std.proofs.Common.{◌≡◌, ℕ, ◌+◌, ◌%◌, ◌^◌, ◌<◌, ◌≤◌, ◌==◌, List, [], ◌∷◌, length, set, sym, refl, ap, ◌∙◌, subst, subst₂, inl, inr, ⊎_elim, arith, Option, Some, slice_index, true, false, MatchBool}
use mathlib.Core.Option as maybe
use mathlib.Core.Option.{none, some}
use lib.ListN.{get_elem?}
use Rattle.atomic_table.specs.Table.{State, Act, keeps, takes, gives, step, Valid, stepped, carried_after, Allows}
use Rattle.atomic_table.proofs.Lists.{one_turn, set_again}
use Rattle.turnstile.specs.declared.view.View.{View}
use Rattle.turnstile.specs.declared.view.Stage.TheVariants.{Idle, Waits, Holds, Hears}
use Rattle.turnstile.specs.Lists.{times, IsPrefix, Extends}
use Rattle.turnstile.specs.TurnRule.{FitsStage, TurnRule}
use Rattle.turnstile.specs.Views.{tickets, IsHolding, with_stage, told}
use Rattle.turnstile.specs.Steps.{Mine, Got, looked, took, counted, published, passed, heard}
use Rattle.turnstile.proofs.Totals.{total_at}
use Rattle.turnstile.proofs.Beginnings.{prefix_self, prefix_trans, prefix_shorter, extends_prefix}
use Rattle.turnstile.proofs.Places.{same_number, once_at_most, place_more}
use Rattle.turnstile.proofs.Views.{numbered, later_stage, behind, longest_set, longest_here, holder_set, holder_here}
use Rattle.turnstile.proofs.Kept.{word_0, word_1, word_2, room, kept_set, served, at_home, no_other}

module _ {T E : Type 0} (history : T → List E) (kept : T → Type 0) (seats opening : ℕ) where
  abbrev K : State (Option T) (View E) → Type 0
  K = TurnRule history kept seats opening

  -- what a step owes in the state s
  abbrev Kept : State (Option T) (View E) → ℕ → Mine T E → ℕ → ℕ → (Mine T E → Type 0) → Type 0
  Kept s id me i n then_ = (w : View E) × (a : Act (Option T)) × Valid s.homes me.1 a × K (stepped s i n id me.1 w a) × then_ (w, carried_after me.1 a)

  -- taking a ticket
  pub takes_ticket : (slots id : ℕ) (m : Mine T E) → m.0.stage ≡ Idle → 0 < m.0.share → Allows K slots id m 0 (λ n. (n + 1) % 2 ^ 64) (took (step slots 0 1 0 none) m)
  takes_ticket slots id m idle some_share s h _ at _ =
      let n : ℕ = slice_index s.words 0 in
      let w : View E = with_stage m.0 (Waits n) in
      let few = h.few in
      let space = room history kept s h in
      let line = h.line in
      let none_out : tickets m.0.stage ≡ 0 = ap tickets idle in
      let out : Type 0 = s.homes ≡ none ∷ [] in (
        w,
        keeps,
        tt,
        kept_set history kept s h (set s.words 0 ((n + 1) % 2 ^ 64)) s.homes id m.0 w h.now (h.next + 1) h.log at
            (let x : ((h.next % 2 ^ 64) + 1) % 2 ^ 64 ≡ (h.next + 1) % 2 ^ 64 = omega arith in rw h.words (ap (λ z. z ∷ h.now % 2 ^ 64 ∷ length h.log % 2 ^ 64 ∷ []) x))
            (omega arith)
            refl
            h.later
            (λ p. refl)
            (let f = h.each id m.0 at in record { stage = (h.next, sym (word_0 history kept s h), omega arith, omega arith); seen = f.seen; spent = λ z. absurd (omega arith) })
            (λ j u _ a. let f = h.each j u a in record { stage = later_stage h.now h.next (h.next + 1) h.log out out u.stage (omega arith) (λ o. o) f.stage; seen = f.seen; spent = f.spent })
            (λ t j u mine other a theirs.
            let k = numbered h.now h.next h.log out u.stage t (h.each j u a).stage theirs in
            let low : h.now ≤ k.0 = k.2 in
            let high : k.0 < h.next = k.3 in
            let one = one_turn k.0 h.next (2 ^ 64) (omega arith) (omega arith) (k.1 ∙ (sym mine ∙ word_0 history kept s h)) in
            absurd (omega arith))
            (longest_set h.log s.views id m.0 w at (λ a b. (a, b)) h.longest)
            (⊎_elim (λ x. inl x) (λ x. inr (x.0, holder_set s.views id m.0 w at (λ hold. absurd (subst IsHolding idle hold)) x.1)) h.slot),
        refl,
      )

  -- a step that changes nothing
  still : (s : State (Option T) (View E)) (i id : ℕ) (v : View E) (c : List (ℕ × Option T)) → set s.words i (slice_index s.words i) ≡ s.words → get_elem? s.views id ≡ some v → K s → K (stepped s i (slice_index s.words i) id c v keeps)
  still s i id v c e at h = subst₂ (λ (ws : List ℕ) (vs : List (View E)). K (record { words = ws; homes = s.homes; views = vs })) (sym e) (sym (set_again s.views id v at)) h

  -- looking at a ticket that is not the own one
  waits_on : (slots id : ℕ) (v : View E) (k : ℕ) (s : State (Option T) (View E)) (h : K s) → get_elem? s.views id ≡ some (with_stage v (Waits k)) → (slice_index s.words 1 == k) ≡ false → Kept s id (with_stage v (Waits k), []) 1 (slice_index s.words 1) (looked history kept (step slots 1 0 0 none) (with_stage v (Waits k), []) (slice_index s.words 1))
  waits_on slots id v k s h at miss =
      let m : Mine T E = (with_stage v (Waits k), []) in (
        m.0,
        keeps,
        tt,
        still s 1 id m.0 [] (rw h.words refl) at h,
        subst (λ b. MatchBool b (Got history kept m m) (m ≡ m)) (sym miss) refl,
      )

  -- looking at the own ticket
  has_turn : (slots id : ℕ) (v : View E) (k : ℕ) → 0 < v.share → (s : State (Option T) (View E)) (h : K s) → get_elem? s.views id ≡ some (with_stage v (Waits k)) → (slice_index s.words 1 == k) ≡ true → Kept s id (with_stage v (Waits k), []) 1 (slice_index s.words 1) (looked history kept (step slots 1 0 0 none) (with_stage v (Waits k), []) (slice_index s.words 1))
  has_turn slots id v k some_share s h at hit =
      let m : Mine T E = (with_stage v (Waits k), []) in
      let found : h.now % 2 ^ 64 ≡ k = sym (word_1 history kept s h) ∙ same_number (slice_index s.words 1) k hit in
      let home = at_home history kept s h id m.0 k at refl found in
      let y : T = home.0 in
      let w : View E = with_stage v (Holds k (history y)) in
      let m' : Mine T E = (w, (0, Some y) ∷ []) in
      let f = h.each id m.0 at in
      let gone : set s.homes 0 none ≡ none ∷ [] = rw home.1 refl in
      let out : Type 0 = set s.homes 0 none ≡ none ∷ [] in
      let none_else = no_other history kept s h id m.0 in (
        w,
        takes 0 (Some y),
        ap (λ (hs : List (maybe.Option (Option T))). get_elem? hs 0) home.1,
        kept_set history kept s h (set s.words 1 (slice_index s.words 1)) (set s.homes 0 none) id m.0 w h.now h.next h.log at
            (rw h.words refl)
            (omega arith)
            refl
            h.later
            (λ p. refl)
            (record { stage = (found, served history kept s h id m.0 k at refl, home.2, gone); seen = f.seen; spent = λ z. absurd (omega arith) })
            (λ j u other a. let g = h.each j u a in record { stage = behind h.now h.now h.next h.log h.log (s.homes ≡ none ∷ []) out u.stage (omega arith) (prefix_self h.log) (none_else (h.now % 2 ^ 64) at (sym found) j u other a) g.stage; seen = g.seen; spent = g.spent })
            (λ t j u mine other a. none_else t at mine j u other a)
            (longest_set h.log s.views id m.0 w at (λ a b. (a, b)) h.longest)
            (inr (gone, holder_here s.views id m.0 w at tt)),
        subst (λ b. MatchBool b (Got history kept m m') (m' ≡ m)) (sym hit) (y, refl, subst (IsPrefix v.seen) (sym home.2) f.seen, home.3),
      )

  -- looking at the ticket that is served
  pub looks : (slots id : ℕ) (v : View E) (k : ℕ) → 0 < v.share → Allows K slots id (with_stage v (Waits k), []) 1 (λ n. n) (looked history kept (step slots 1 0 0 none) (with_stage v (Waits k), []))
  looks slots id v k some_share s h _ at _ =
      let Goal : Type 0 = Kept s id (with_stage v (Waits k), []) 1 (slice_index s.words 1) (looked history kept (step slots 1 0 0 none) (with_stage v (Waits k), []) (slice_index s.words 1)) in
      elim (slice_index s.words 1 == k) as (λ b. (slice_index s.words 1 == k) ≡ b → Goal) [
        | true ↦ has_turn slots id v k some_share s h at
        | false ↦ waits_on slots id v k s h at
      ] refl

  -- looking at the length of the history
  pub counts : (slots id : ℕ) (v : View E) (k : ℕ) (base : List E) (c : List (ℕ × Option T)) → Allows K slots id (with_stage v (Holds k base), c) 2 (λ n. n) (counted (step slots 2 0 0 none) (with_stage v (Holds k base), c))
  counts slots id v k base c s h _ at _ =
      let m : Mine T E = (with_stage v (Holds k base), c) in
      let f = h.each id m.0 at in
      let is : base ≡ h.log = f.stage.2 in (
        m.0,
        keeps,
        tt,
        still s 2 id m.0 c (rw h.words refl) at h,
        (word_2 history kept s h ∙ ap (λ (l : List E). length l % 2 ^ 64) (sym is), refl),
      )

  -- publishing
  pub publishes : (slots id : ℕ) (v : View E) (k : ℕ) (base log : List E) (c : List (ℕ × Option T)) (more : ℕ) → 0 < v.share → Extends base log → length log ≡ length base + more → Allows K slots id (with_stage v (Holds k base), c) 2 (λ n. (n + more) % 2 ^ 64) (published log (step slots 2 more 0 none) (with_stage v (Holds k base), c))
  publishes slots id v k base log c more some_share ext long s h _ at _ =
      let m : Mine T E = (with_stage v (Holds k base), c) in
      let n : ℕ = slice_index s.words 2 in
      let w : View E = told m.0 log in
      let f = h.each id m.0 at in
      let st : FitsStage h.now h.next h.log (s.homes ≡ none ∷ []) (Holds k base) = f.stage in
      let is : base ≡ h.log = st.2 in
      let out : Type 0 = s.homes ≡ none ∷ [] in
      let longer : length log ≡ length h.log + more = long ∙ ap (λ (l : List E). length l + more) is in
      let begins : IsPrefix h.log log = subst (λ (l : List E). IsPrefix l log) is (extends_prefix base log ext) in
      let none_else = no_other history kept s h id m.0 in
      let late = h.later in (
        w,
        keeps,
        tt,
        kept_set history kept s h (set s.words 2 ((n + more) % 2 ^ 64)) s.homes id m.0 w h.now h.next log at
            (let x : ((length h.log % 2 ^ 64) + more) % 2 ^ 64 ≡ length log % 2 ^ 64 = omega arith in rw h.words (ap (λ z. h.next % 2 ^ 64 ∷ h.now % 2 ^ 64 ∷ z ∷ []) x))
            (omega arith)
            refl
            (omega arith)
            (λ p. rw (← is) (place_more opening p v.mine base log (subst (λ (l : List E). opening ≤ length l) (sym is) h.later) ext))
            (record { stage = (st.0, st.1, refl, st.3); seen = prefix_self log; spent = λ z. absurd (omega arith) })
            (λ j u other a. let g = h.each j u a in record { stage = behind h.now h.now h.next h.log log out out u.stage (omega arith) begins (none_else (h.now % 2 ^ 64) at (sym st.0) j u other a) g.stage; seen = prefix_trans u.seen h.log log g.seen begins; spent = g.spent })
            (λ t j u mine other a. none_else t at mine j u other a)
            (longest_here log s.views id m.0 w at some_share refl)
            (inr (st.3, holder_here s.views id m.0 w at tt)),
        refl,
      )

  -- passing the turn on, with the value at home again
  pub passes : (slots id : ℕ) (v : View E) (k : ℕ) (y : T) → kept y → 0 < v.share → Allows K slots id (with_stage v (Holds k (history y)), (0, Some y) ∷ []) 1 (λ n. (n + 1) % 2 ^ 64) (passed (step slots 1 1 0 none) (with_stage v (Holds k (history y)), (0, Some y) ∷ []))
  passes slots id v k y keeping some_share s h _ at _ =
      let m : Mine T E = (with_stage v (Holds k (history y)), (0, Some y) ∷ []) in
      let n : ℕ = slice_index s.words 1 in
      let w : View E = with_stage v Idle in
      let f = h.each id m.0 at in
      let st : FitsStage h.now h.next h.log (s.homes ≡ none ∷ []) (Holds k (history y)) = f.stage in
      let homes : List (maybe.Option (Option T)) = set s.homes 0 (some (Some y)) in
      let home : homes ≡ some (Some y) ∷ [] = rw st.3 refl in
      let none_else = no_other history kept s h id m.0 in (
        w,
        gives,
        tt,
        kept_set history kept s h (set s.words 1 ((n + 1) % 2 ^ 64)) homes id m.0 w (h.now + 1) h.next h.log at
            (let x : ((h.now % 2 ^ 64) + 1) % 2 ^ 64 ≡ (h.now + 1) % 2 ^ 64 = omega arith in rw h.words (ap (λ z. h.next % 2 ^ 64 ∷ z ∷ length h.log % 2 ^ 64 ∷ []) x))
            (omega arith)
            refl
            h.later
            (λ p. refl)
            (record { stage = tt; seen = f.seen; spent = λ z. absurd (omega arith) })
            (λ j u other a. let g = h.each j u a in record { stage = behind h.now (h.now + 1) h.next h.log h.log (s.homes ≡ none ∷ []) (homes ≡ none ∷ []) u.stage (omega arith) (prefix_self h.log) (none_else (h.now % 2 ^ 64) at (sym st.0) j u other a) g.stage; seen = g.seen; spent = g.spent })
            (λ t j u mine other a. absurd mine)
            (longest_set h.log s.views id m.0 w at (λ a b. (a, b)) h.longest)
            (inl (y, home, st.2, keeping)),
        refl,
      )

  -- comparing what two joined seats had seen
  pub hears : (slots id : ℕ) (v : View E) (a b : List E) → 0 < v.share → Allows K slots id (with_stage v (Hears a b), []) 0 (λ n. n) (heard (step slots 0 0 0 none) (with_stage v (Hears a b), []))
  hears slots id v a b some_share s h _ at _ =
      let m : Mine T E = (with_stage v (Hears a b), []) in
      let w : View E = with_stage v Idle in
      let f = h.each id m.0 at in
      let out : Type 0 = s.homes ≡ none ∷ [] in (
        w,
        keeps,
        tt,
        kept_set history kept s h (set s.words 0 (slice_index s.words 0)) s.homes id m.0 w h.now h.next h.log at
            (rw h.words refl)
            (omega arith)
            refl
            h.later
            (λ p. refl)
            (record { stage = tt; seen = f.seen; spent = λ z. absurd (omega arith) })
            (λ j u _ x. h.each j u x)
            (λ t j u mine other x. absurd mine)
            (longest_set h.log s.views id m.0 w at (λ x y. (x, y)) h.longest)
            (⊎_elim (λ x. inl x) (λ x. inr (x.0, holder_set s.views id m.0 w at (λ hold. absurd hold) x.1)) h.slot),
        (
          refl,
          ((λ le. prefix_shorter a v.seen h.log f.stage.0 f.seen le), (λ le. prefix_shorter b v.seen h.log f.stage.1 f.seen le)),
          λ p.
              let t = total_at (λ (u : View E). times p u.mine) s.views id m.0 at in
              let e = h.places p in
              let l = once_at_most opening (length h.log) p in
              omega arith,
        ),
      )
