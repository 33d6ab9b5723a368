-- What a round of orders and lapses is.
use Rattle.std.specs.Prelude.{◌≡◌, ℕ, ◌+◌, ◌-◌, ◌^◌, ◌≤◌, min, nat_le, ◌&&◌, Bool, List, [], ◌∷◌, ◌++◌, length, map, Option, Some, None, if◌then◌else◌}
use Rattle.std.specs.List.{AllByRecursion, slice_get}
use Rattle.cmp_ports.specs.Coming.{GivesAll}
use Rattle.cmp_ports.specs.declared.order.Order.{Order}
use Rattle.deal_model.specs.Views.{History}
use Rattle.desk.specs.declared.answers.Lapsed.{Lapsed}
use Rattle.desk.specs.declared.answers.Lapsed.TheVariants as lapsed
use Rattle.desk.specs.declared.answers.Ordered.{Ordered}
use Rattle.desk.specs.declared.answers.Ordered.TheVariants as ordered
use Rattle.rounds.specs.declared.round.Stop.{Stop}
use Rattle.rounds.specs.declared.round.Stop.TheVariants.{ReadFault, DiskFault, NoMemory}
use Rattle.rounds.specs.declared.round.Round.{Round}
use Rattle.rounds.specs.Deeds.{Deed, AreDeeds, reading_of, orders_in, places_in, obeyed, unheeded, IsCaughtUp}

-- ---- counts

-- the last value of a count, at which it stays
abbrev pub last_count : ℕ
last_count = 2 ^ 64 - 1

abbrev pub none_yet : Round
none_yet = record { done = 0; refused = 0; stop = None }

-- a round that stopped before it did anything
abbrev pub stopped : Stop → Round
stopped stop = record { done = 0; refused = 0; stop = Some stop }

-- both counts have room for both rounds
abbrev pub has_room : Round → Round → Bool
has_room a b = nat_le (a.done + b.done) last_count && nat_le (a.refused + b.refused) last_count

-- how the second of two rounds ends both; counts that are past their last value are want of memory
abbrev pub stop_after : Option Stop → Bool → Option Stop
stop_after (Some stop) room = Some stop
stop_after None room = if room then None else Some NoMemory

-- two rounds, one after the other
abbrev pub both : Round → Round → Round
both a b = record { done = min (a.done + b.done) last_count; refused = min (a.refused + b.refused) last_count; stop = stop_after b.stop (has_room a b) }

-- the count of a round
abbrev pub Counts : ℕ → ℕ → Type 0
Counts count n = count ≡ min n last_count

-- ---- what a round took, read and did

-- the calls took these, one after the other
abbrev pub TakesAll : {X : Type 0} → Option (List X) → Option (List X) → List X → Type 0
TakesAll None new xs = Unit {0}
TakesAll (Some old) None xs = ⊥
TakesAll (Some old) (Some new) xs = old ≡ xs ++ new

-- where they are told, none of these is left
abbrev pub IsUsedUp : {X : Type 0} → Option (List X) → Option (List X) → Type 0
IsUsedUp None new = Unit {0}
IsUsedUp (Some old) new = new ≡ Some []

-- it is one of these
abbrev pub IsAmong : {X : Type 0} → List X → X → Type 0
IsAmong xs x = (n : ℕ) × (slice_get xs n ≡ Some x)

-- the order that was taken last and had no deed: only where the disk failed or memory ran out
abbrev pub lone : Option Order → List Order
lone None = []
lone (Some order) = order ∷ []

abbrev pub MayLose : Option Order → Option Stop → Type 0
MayLose None stop = Unit {0}
MayLose (Some order) None = ⊥
MayLose (Some order) (Some ReadFault) = ⊥
MayLose (Some order) (Some DiskFault) = Unit {0}
MayLose (Some order) (Some NoMemory) = Unit {0}

-- What was done accounts for a round: for the history h that it made of h0, the orders that it took, the readings of its clock, the
-- places of its own changes, and what it tells. It does so whether the round stopped or not.
pub record Accounts (h0 h : History) (taken : List Order) (readings places : List ℕ) (round : Round) : Type 0 where
  pub deeds : List Deed
  pub done : AreDeeds h (length h0) deeds
  pub made : places ≡ places_in deeds
  pub lost : Option Order
  pub orders : taken ≡ orders_in deeds ++ lone lost
  pub loses : MayLose lost round.stop
  pub among : AllByRecursion (λ d. IsAmong readings (reading_of d)) deeds
  pub obeys : Counts round.done (obeyed deeds)
  pub refuses : Counts round.refused (unheeded deeds)
  pub exact : round.stop ≡ None → (obeyed deeds ≤ last_count) × (unheeded deeds ≤ last_count)

-- what is told of a clerk, of the orders and of a clock at a moment: the history that the clerk has seen, the places of its own
-- changes, the orders that are left and the readings to come
pub record Sight : Type 0 where
  pub seen : History
  pub mine : List ℕ
  pub left : Option (List Order)
  pub coming : Option (ℕ → ℕ)

-- A round: what it did accounts for the orders that it took, the readings that its clock gave and the places that its clerk gained.
pub record IsRound (old new : Sight) (round : Round) : Type 0 where
  pub taken : List Order
  pub takes : TakesAll old.left new.left taken
  pub readings : List ℕ
  pub reads : GivesAll old.coming new.coming readings
  pub places : List ℕ
  pub gained : new.mine ≡ old.mine ++ places
  pub accounts : Accounts old.seen new.seen taken readings places round

-- ---- the single rounds

-- the round of one order, and how a call for a lapse ends a round, where it does
abbrev pub order_round : Ordered → Round
order_round (ordered.Done place) = record { done = 1; refused = 0; stop = None }
order_round ordered.NotHeld = record { done = 0; refused = 1; stop = None }
order_round ordered.Full = record { done = 0; refused = 1; stop = None }
order_round ordered.DiskFault = stopped DiskFault
order_round ordered.NoMemory = stopped NoMemory

abbrev pub lapse_round : Lapsed → Option Round
lapse_round (lapsed.Done place tid) = None
lapse_round lapsed.Nothing = Some none_yet
lapse_round lapsed.Full = Some none_yet
lapse_round lapsed.DiskFault = Some (stopped DiskFault)
lapse_round lapsed.NoMemory = Some (stopped NoMemory)

-- a round of orders: no certificate lapses, and the clock is read once an order
pub record IsOrderRound (old new : Sight) (round : Round) : Type 0 where
  pub whole : IsRound old new round
  pub alone : length (orders_in whole.accounts.deeds) ≡ length whole.accounts.deeds
  pub more : List ℕ
  pub each : whole.readings ≡ map reading_of whole.accounts.deeds ++ more
  pub once : length more ≡ length (lone whole.accounts.lost)

-- a round of lapses: the clock is read once a call, of which the last one lapsed none
pub record IsLapseRound (old new : Sight) (round : Round) : Type 0 where
  pub whole : IsRound old new round
  pub alone : whole.taken ≡ []
  pub last : ℕ
  pub each : whole.readings ≡ map reading_of whole.accounts.deeds ++ last ∷ []
  -- where it didn't stop, all that was due has lapsed
  pub due : round.stop ≡ None → IsCaughtUp new.seen last

-- a round of lapses by one reading, over the history h0 that becomes h
pub record IsLapsing (h0 h : History) (now : ℕ) (before after : List ℕ) (round : Round) : Type 0 where
  pub places : List ℕ
  pub gained : after ≡ before ++ places
  pub accounts : Accounts h0 h [] (now ∷ []) places round
  pub due : round.stop ≡ None → IsCaughtUp h now

-- A round of lapses, and then of orders: the clock is read once a deed, once for an order without a deed, and once for the call that
-- lapsed none.
pub record IsMixedRound (old new : Sight) (round : Round) : Type 0 where
  pub whole : IsRound old new round
  pub once : length whole.readings ≡ length whole.accounts.deeds + length (lone whole.accounts.lost) + 1

-- one reading, at which all that was due has lapsed
abbrev pub IsSomeLast : History → List ℕ → Type 0
IsSomeLast h [] = ⊥
IsSomeLast h (now ∷ []) = IsCaughtUp h now
IsSomeLast h (now ∷ next ∷ readings) = ⊥

-- The last round: orders, and then lapses by one reading. Where it didn't stop, that is the last one, and all that was due at it has
-- lapsed.
pub record IsLastRound (old new : Sight) (round : Round) : Type 0 where
  pub whole : IsRound old new round
  pub earlier : List ℕ
  pub last : List ℕ
  pub reads_last : whole.readings ≡ earlier ++ last
  -- the others are one an order
  pub once : length earlier ≡ length whole.taken
  pub due : round.stop ≡ None → IsSomeLast new.seen last
