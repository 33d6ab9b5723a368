-- The steps at a seat whose view is only known to have a shape.
use Rattle.std.proofs.Common.{◌≡◌, ℕ, ◌+◌, ◌%◌, ◌^◌, ◌<◌, List, [], ◌∷◌, length, sym, refl, ap, ◌∙◌, subst, arith, Option, Some}
use mathlib.Core.Option.{none}
use Rattle.atomic_table.specs.Table.{State, Allows, step, rest}
use Rattle.turnstile.specs.declared.view.View.{View}
use Rattle.turnstile.specs.declared.view.Stage.{Stage}
use Rattle.turnstile.specs.declared.view.Stage.TheVariants.{Idle, Waits, Holds, Hears}
use Rattle.turnstile.specs.Lists.{Extends}
use Rattle.turnstile.specs.TurnRule.{TurnRule}
use Rattle.turnstile.specs.Views.{IsHolding, base_of, ticket_of, with_stage, told, hearing, joined}
use Rattle.turnstile.specs.Steps.{Mine, IsWaiting, HasTurn, Got, looked, counted, published, passed, heard}
use Rattle.turnstile.proofs.Steps.{looks, counts, publishes, passes, hears}

module _ {T E : Type 0} where
  -- a seat by its stage and its slots
  as_is : (m : Mine T E) (st : Stage E) (c : List (ℕ × Option T)) → m.0.stage ≡ st → m.1 ≡ c → (with_stage m.0 st, c) ≡ m
  as_is m st c e d k = (record { seen = m.0.seen; mine = m.0.mine; share = m.0.share; stage = sym e k }, sym d k)

module _ {E : Type 0} where
  -- the stage of a seat with the turn
  held : (st : Stage E) → IsHolding st → st ≡ Holds (ticket_of st) (base_of st)
  held Idle h = absurd h
  held (Waits n) h = absurd h
  held (Holds n base) h = refl
  held (Hears a b) h = absurd h

module _ {T E : Type 0} (history : T → List E) (kept : T → Type 0) where
  -- the slot of the seat that has come to its turn
  pub gets_as : (m m' : Mine T E) → Got history kept m m' → (x : Option T) × (m'.1 ≡ (0, x) ∷ rest m'.1)
  gets_as m m' got =
      let c : List (ℕ × Option T) = (0, Some got.0) ∷ [] in
      let e : m'.1 ≡ c = ap (λ (x : Mine T E). x.1) got.1 in
      (Some got.0, e ∙ ap (λ (x : List (ℕ × Option T)). let z : List (ℕ × Option T) = (0, Some got.0) ∷ rest x in z) (sym e))

module _ {T E : Type 0} (history : T → List E) (kept : T → Type 0) (seats opening : ℕ) where
  abbrev K : State (Option T) (View E) → Type 0
  K = TurnRule history kept seats opening

  pub looks_as : (slots id : ℕ) (m : Mine T E) (k : ℕ) → IsWaiting m k → Allows K slots id m 1 (λ n. n) (looked history kept (step slots 1 0 0 none) m)
  looks_as slots id m k w = subst (λ (x : Mine T E). Allows K slots id x 1 (λ n. n) (looked history kept (step slots 1 0 0 none) x)) (as_is m (Waits k) [] w.1 w.0) (looks history kept seats opening slots id m.0 k w.2)

  pub counts_as : (slots id : ℕ) (m : Mine T E) → HasTurn m → Allows K slots id m 2 (λ n. n) (counted (step slots 2 0 0 none) m)
  counts_as slots id m t = subst (λ (x : Mine T E). Allows K slots id x 2 (λ n. n) (counted (step slots 2 0 0 none) x)) (as_is m (Holds (ticket_of m.0.stage) (base_of m.0.stage)) m.1 (held m.0.stage t.1) refl) (counts history kept seats opening slots id m.0 (ticket_of m.0.stage) (base_of m.0.stage) m.1)

  pub publishes_as : (slots id : ℕ) (m : Mine T E) (log : List E) (more : ℕ) → HasTurn m → Extends (base_of m.0.stage) log → length log ≡ length (base_of m.0.stage) + more → Allows K slots id m 2 (λ n. (n + more) % 2 ^ 64) (published log (step slots 2 more 0 none) m)
  publishes_as slots id m log more t ext long = subst (λ (x : Mine T E). Allows K slots id x 2 (λ n. (n + more) % 2 ^ 64) (published log (step slots 2 more 0 none) x)) (as_is m (Holds (ticket_of m.0.stage) (base_of m.0.stage)) m.1 (held m.0.stage t.1) refl) (publishes history kept seats opening slots id m.0 (ticket_of m.0.stage) (base_of m.0.stage) log m.1 more t.2 ext long)

  -- passing the turn on: the seat a had the turn, looked at the length as b, published the history of y as c, and put y back as m
  pub passes_as : (slots id : ℕ) (a b c m : Mine T E) (y : T) → kept y → HasTurn a → b ≡ a → c ≡ (told b.0 (history y), b.1) → m ≡ (c.0, (0, Some y) ∷ rest c.1) → Allows K slots id m 1 (λ n. (n + 1) % 2 ^ 64) (passed (step slots 1 1 0 none) m)
  passes_as slots id a b c m y keeping t looked_at publishing putting =
      let log : List E = history y in
      let v : View E = told a.0 log in
      let last : Mine T E = (v, (0, Some y) ∷ []) in
      let from_c = ap (λ (x : Mine T E). let z : Mine T E = (x.0, (0, Some y) ∷ rest x.1) in z) publishing in
      let from_b = ap (λ (x : Mine T E). let z : Mine T E = (told x.0 log, (0, Some y) ∷ rest x.1) in z) looked_at in
      let from_a = ap (λ (x : List (ℕ × Option T)). let z : Mine T E = (v, (0, Some y) ∷ rest x) in z) t.0 in
      let is : m ≡ last = putting ∙ from_c ∙ from_b ∙ from_a in
      subst (λ (x : Mine T E). Allows K slots id x 1 (λ n. (n + 1) % 2 ^ 64) (passed (step slots 1 1 0 none) x)) (sym is) (passes history kept seats opening slots id v (ticket_of a.0.stage) y keeping t.2)

  pub hears_as : (slots id : ℕ) (v w : View E) (c : List (ℕ × Option T)) (m : Mine T E) → 0 < v.share → c ≡ [] → m ≡ (hearing v w, c) → Allows K slots id m 0 (λ n. n) (heard (step slots 0 0 0 none) m)
  hears_as slots id v w c m some_share no_slots e =
      let is = e ∙ ap (λ (x : List (ℕ × Option T)). let z : Mine T E = (hearing v w, x) in z) no_slots in
      subst (λ (x : Mine T E). Allows K slots id x 0 (λ n. n) (heard (step slots 0 0 0 none) x)) (sym is) (hears history kept seats opening slots id (joined v w) v.seen w.seen (omega arith))
