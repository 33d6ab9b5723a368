-- What the view of a seat says, and what each call makes of it.
use Rattle.std.specs.Prelude.{◌≡◌, ℕ, ◌+◌, ◌-◌, List, [], ◌∷◌, ◌++◌, length, if◌then◌else◌, nat_lt}
use Rattle.turnstile.specs.Lists.{longer}
use Rattle.turnstile.specs.declared.view.View.{View}
use Rattle.turnstile.specs.declared.view.Stage.{Stage}
use Rattle.turnstile.specs.declared.view.Stage.TheVariants.{Idle, Waits, Holds, Hears}

-- the places of a seat that turned the history base into log: a place more where there is an entry more
abbrev pub extended : {E : Type 0} → List ℕ → List E → List E → List ℕ
extended mine base log = if nat_lt (length base) (length log) then mine ++ length log ∷ [] else mine

module _ {E : Type 0} where
  -- the history that the value had when the turn began
  abbrev pub base_of : Stage E → List E
  base_of Idle = []
  base_of (Waits n) = []
  base_of (Holds n base) = base
  base_of (Hears a b) = []

  -- the ticket, 0 where there is none
  abbrev pub ticket_of : Stage E → ℕ
  ticket_of Idle = 0
  ticket_of (Waits n) = n
  ticket_of (Holds n base) = n
  ticket_of (Hears a b) = 0

  -- how many tickets the seat has
  abbrev pub tickets : Stage E → ℕ
  tickets Idle = 0
  tickets (Waits n) = 1
  tickets (Holds n base) = 1
  tickets (Hears a b) = 0

  -- this is its ticket
  abbrev pub HasTicket : ℕ → Stage E → Type 0
  HasTicket t Idle = ⊥
  HasTicket t (Waits n) = n ≡ t
  HasTicket t (Holds n base) = n ≡ t
  HasTicket t (Hears a b) = ⊥

  -- it has the turn
  abbrev pub IsHolding : Stage E → Type 0
  IsHolding Idle = ⊥
  IsHolding (Waits n) = ⊥
  IsHolding (Holds n base) = Unit {0}
  IsHolding (Hears a b) = ⊥

  -- the view at that stage
  abbrev pub with_stage : View E → Stage E → View E
  with_stage v st = record { seen = v.seen; mine = v.mine; share = v.share; stage = st }

  -- the first seat at the start: it has seen the history of the value, and counts for all seats
  abbrev pub newcomer : List E → ℕ → View E
  newcomer log seats = record { seen = log; mine = []; share = seats; stage = Idle }

  -- the seat from which another was split off
  abbrev pub one_less : View E → View E
  one_less v = record { seen = v.seen; mine = v.mine; share = v.share - 1; stage = v.stage }

  -- the seat that was split off: it has seen the same, and added nothing
  abbrev pub one_more : View E → View E
  one_more v = record { seen = v.seen; mine = []; share = 1; stage = Idle }

  -- the seat that took in another: the longer history, the places of both, the shares added up
  abbrev pub joined : View E → View E → View E
  joined v w = record { seen = longer v.seen w.seen; mine = v.mine ++ w.mine; share = v.share + w.share; stage = Idle }

  -- the same until it has compared what the two had seen
  abbrev pub hearing : View E → View E → View E
  hearing v w = with_stage (joined v w) (Hears v.seen w.seen)

  -- the seat that was taken in
  abbrev pub spent : View E
  spent = record { seen = []; mine = []; share = 0; stage = Idle }

  -- the seat with the turn once it has published that the history is log
  abbrev pub told : View E → List E → View E
  told v log = record { seen = log; mine = extended v.mine (base_of v.stage) log; share = v.share; stage = Holds (ticket_of v.stage) log }

  -- the seat after its turn, in which the history became log
  abbrev pub after_turn : View E → List E → View E
  after_turn v log = record { seen = log; mine = extended v.mine (base_of v.stage) log; share = v.share; stage = Idle }
