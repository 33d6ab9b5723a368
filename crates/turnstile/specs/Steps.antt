-- What a seat is before and after each step, and what each step tells.
use Rattle.std.specs.Prelude.{◌≡◌, ℕ, ◌%◌, ◌^◌, ◌<◌, ◌≤◌, ◌==◌, List, [], ◌∷◌, length, MatchBool, Option, Some, None}
use Rattle.atomic_table.specs.Table.{Me, Step}
use Rattle.turnstile.specs.declared.view.View.{View}
use Rattle.turnstile.specs.declared.view.Stage.{Stage}
use Rattle.turnstile.specs.declared.view.Stage.TheVariants.{Idle, Waits, Holds, Hears}
use Rattle.turnstile.specs.Lists.{times, IsPrefix}
use Rattle.turnstile.specs.Views.{base_of, ticket_of, IsHolding, with_stage, told}

module _ {E : Type 0} where
  -- of two histories that joined seats had seen, each that is no longer than seen is a beginning of it
  abbrev pub Heard : Stage E → List E → Type 0
  Heard Idle seen = Unit {0}
  Heard (Waits n) seen = Unit {0}
  Heard (Holds n base) seen = Unit {0}
  Heard (Hears a b) seen = (length a ≤ length seen → IsPrefix a seen) × (length b ≤ length seen → IsPrefix b seen)

-- a seat: its view, and the slots that it has taken
abbrev pub Mine : Type 0 → Type 0 → Type 0
Mine T E = Me (Option T) (View E)

module _ {T E : Type 0} where
  -- the seat holds no turn
  abbrev pub Rests : Mine T E → Type 0
  Rests m = (m.1 ≡ []) × (m.0.stage ≡ Idle) × (0 < m.0.share)

  -- the seat waits with this ticket
  abbrev pub IsWaiting : Mine T E → ℕ → Type 0
  IsWaiting m ticket = (m.1 ≡ []) × (m.0.stage ≡ Waits ticket) × (0 < m.0.share)

  -- the seat has the turn, and the value was taken out
  abbrev pub HasTurn : Mine T E → Type 0
  HasTurn m = (m.1 ≡ (0, None) ∷ []) × IsHolding m.0.stage × (0 < m.0.share)

  -- the seat m came to have the turn, and the value that it was given has the history base
  abbrev pub Entered : Mine T E → List E → Mine T E → Type 0
  Entered m base m' = (ticket : ℕ) × (m' ≡ (with_stage m.0 (Holds ticket base), (0, None) ∷ []))

  -- taking a ticket: the seat waits with the one that it found
  abbrev pub took : Step (Option T) → Mine T E → ℕ → Mine T E → Type 0
  took st m n m' = m' ≡ (with_stage m.0 (Waits n), m.1)

  -- looking at the length of the history, with the turn
  abbrev pub counted : Step (Option T) → Mine T E → ℕ → Mine T E → Type 0
  counted st m n m' = (n ≡ length (base_of m.0.stage) % 2 ^ 64) × (m' ≡ m)

  -- publishing: the history is log from now on, and its new place is the seat's
  abbrev pub published : List E → Step (Option T) → Mine T E → ℕ → Mine T E → Type 0
  published log st m n m' = m' ≡ (told m.0 log, m.1)

  -- passing the turn on: the slot is at home again
  abbrev pub passed : Step (Option T) → Mine T E → ℕ → Mine T E → Type 0
  passed st m n m' = m' ≡ (with_stage m.0 Idle, [])

  -- a look after two seats were joined: what the two had seen are beginnings of one history, and no place is twice theirs
  abbrev pub heard : Step (Option T) → Mine T E → ℕ → Mine T E → Type 0
  heard st m n m' = (m' ≡ (with_stage m.0 Idle, m.1)) × Heard m.0.stage m.0.seen × ((p : ℕ) → times p m.0.mine ≤ 1)

module _ {T E : Type 0} (history : T → List E) (kept : T → Type 0) where
  -- the seat has the turn and the slot with the value, whose history begins with all that the seat has seen, and which is as each turn keeps it
  abbrev pub Got : Mine T E → Mine T E → Type 0
  Got m m' = (y : T) × (m' ≡ (with_stage m.0 (Holds (ticket_of m.0.stage) (history y)), (0, Some y) ∷ [])) × IsPrefix m.0.seen (history y) × kept y

  -- looking at the ticket that is served: the seat has the turn where it is its own, else it waits on
  abbrev pub looked : Step (Option T) → Mine T E → ℕ → Mine T E → Type 0
  looked st m n m' = MatchBool (n == ticket_of m.0.stage) (Got m m') (m' ≡ m)
