-- The rule of a turnstile: what its words, its slot and the views of its seats are at any moment between two steps.
-- Word 0 is the next ticket, word 1 the ticket that is served, and word 2 the length of the history, each modulo 2 ^ 64.
use Rattle.std.specs.Prelude.{◌≡◌, ℕ, ◌+◌, ◌%◌, ◌^◌, ◌<◌, ◌≤◌, ◌⊎◌, List, [], ◌∷◌, length, Option, Some}
use mathlib.Core.Option as maybe
use mathlib.Core.Option.{none, some}
use lib.ListN.{get_elem?}
use Rattle.atomic_table.specs.Table.{State}
use Rattle.turnstile.specs.declared.view.View.{View}
use Rattle.turnstile.specs.declared.view.Stage.{Stage}
use Rattle.turnstile.specs.declared.view.Stage.TheVariants.{Idle, Waits, Holds, Hears}
use Rattle.turnstile.specs.Lists.{total, times, once, IsPrefix}
use Rattle.turnstile.specs.Views.{tickets, HasTicket, IsHolding}

module _ {E : Type 0} where
  -- What the stage of a seat says. The tickets are numbered from the start on: the one that is served is now, and those from next on are not out yet.
  -- The value is out exactly where a seat has the turn.
  abbrev pub FitsStage : ℕ → ℕ → List E → Type 0 → Stage E → Type 0
  FitsStage now next log out Idle = Unit {0}
  FitsStage now next log out (Waits n) = (t : ℕ) × (t % 2 ^ 64 ≡ n) × (now ≤ t) × (t < next)
  FitsStage now next log out (Holds n base) = (now % 2 ^ 64 ≡ n) × (now < next) × (base ≡ log) × out
  FitsStage now next log out (Hears a b) = IsPrefix a log × IsPrefix b log

  -- What the view of a seat says, where the history is log
  pub record Fits (now next : ℕ) (log : List E) (out : Type 0) (v : View E) : Type 0 where
    -- its ticket is in the line, and the one with the turn has the ticket that is served
    pub stage : FitsStage now next log out v.stage
    -- what it has seen is a beginning of the history
    pub seen : IsPrefix v.seen log
    -- a seat that counts for none, as one that was joined, has no places and no ticket
    pub spent : v.share ≡ 0 → (v.mine ≡ []) × (v.stage ≡ Idle)

  -- no ticket is two seats'
  abbrev pub Apart : List (View E) → Type 0
  Apart views = (i j : ℕ) (v w : View E) (t : ℕ) → get_elem? views i ≡ some v → get_elem? views j ≡ some w → HasTicket t v.stage → HasTicket t w.stage → i ≡ j

  -- some seat has seen the whole history
  abbrev pub Longest : List E → List (View E) → Type 0
  Longest log views = (i : ℕ) × (v : View E) × (get_elem? views i ≡ some v) × (0 < v.share) × (v.seen ≡ log)

  -- some seat has the turn
  abbrev pub Holder : List (View E) → Type 0
  Holder views = (i : ℕ) × (v : View E) × (get_elem? views i ≡ some v) × IsHolding v.stage

module _ {T E : Type 0} (history : T → List E) (kept : T → Type 0) where
  -- the value is at home, has the history and is as each turn keeps it, or a seat with the turn has taken it out
  abbrev pub Slot : List E → List (View E) → List (maybe.Option (Option T)) → Type 0
  Slot log views homes = ((y : T) × (homes ≡ some (Some y) ∷ []) × (history y ≡ log) × kept y) ⊎ ((homes ≡ none ∷ []) × Holder views)

  -- seats is the number of seats, and opening the length of the history at the start
  pub record TurnRule (seats opening : ℕ) (s : State (Option T) (View E)) : Type 0 where
    -- the number of the ticket that is served, and of the next one
    pub now : ℕ
    pub next : ℕ
    -- the one history
    pub log : List E
    pub words : s.words ≡ next % 2 ^ 64 ∷ now % 2 ^ 64 ∷ length log % 2 ^ 64 ∷ []
    -- so few that their tickets differ modulo 2 ^ 64
    pub few : seats < 2 ^ 32
    -- there are as many tickets out as seats that wait or have the turn
    pub line : now + total (λ v. tickets v.stage) s.views ≡ next
    -- the shares of all seats make up the number of seats
    pub shares : total (λ v. v.share) s.views ≡ seats
    -- the history never falls below its length at the start
    pub later : opening ≤ length log
    -- each place above that length and up to the history's stands once among the places of all seats, and no other place does
    pub places : (p : ℕ) → total (λ v. times p v.mine) s.views ≡ once opening (length log) p
    pub each : (i : ℕ) (v : View E) → get_elem? s.views i ≡ some v → Fits now next log (s.homes ≡ none ∷ []) v
    pub apart : Apart s.views
    pub longest : Longest log s.views
    pub slot : Slot log s.views s.homes
