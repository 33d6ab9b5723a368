-- What orders and lapses do to a history, told of a history that begins with the one to which it was done.
use Rattle.std.specs.Prelude.{◌≡◌, ◌⊎◌, ℕ, ◌+◌, ◌≤◌, Bool, true, false, List, [], ◌∷◌, length, take, Some, IsTrue}
use Rattle.std.specs.List.{flat_map, count_by, slice_get}
use Rattle.cmp_ports.specs.declared.order.Order.{Order}
use Rattle.deal_changes.specs.declared.change.Change.{Change}
use Rattle.deal_model.specs.Views.{History}
use Rattle.desk.specs.Due.{AllAfter, event_time, IsLapse}
use Rattle.desk.specs.Calls.{Awaits, IsOrder, is_full}

-- What was done: an order was obeyed by one change; or an order was taken and made none; or a certificate lapsed by one change. The
-- numbers are how many changes stood before, and the clock's reading.
pub data Deed : Type 0 where
  Obeyed : Order → ℕ → ℕ → Deed
  Unheeded : Order → ℕ → ℕ → Deed
  Lapsed : ℕ → ℕ → Deed

-- how many changes stood before it
abbrev pub before_of : Deed → ℕ
before_of (Obeyed order n now) = n
before_of (Unheeded order n now) = n
before_of (Lapsed n now) = n

-- how many stood after it
abbrev pub after_of : Deed → ℕ
after_of (Obeyed order n now) = n + 1
after_of (Unheeded order n now) = n
after_of (Lapsed n now) = n + 1

-- the reading by which it was done
abbrev pub reading_of : Deed → ℕ
reading_of (Obeyed order n now) = now
reading_of (Unheeded order n now) = now
reading_of (Lapsed n now) = now

-- the order that it is about
abbrev pub order_in : Deed → List Order
order_in (Obeyed order n now) = order ∷ []
order_in (Unheeded order n now) = order ∷ []
order_in (Lapsed n now) = []

abbrev pub orders_in : List Deed → List Order
orders_in deeds = flat_map order_in deeds

-- the place of its change, counted from 1
abbrev pub place_in : Deed → List ℕ
place_in (Obeyed order n now) = (n + 1) ∷ []
place_in (Unheeded order n now) = []
place_in (Lapsed n now) = (n + 1) ∷ []

abbrev pub places_in : List Deed → List ℕ
places_in deeds = flat_map place_in deeds

-- how many orders were obeyed, and how many made no change
abbrev pub is_obeyed : Deed → Bool
is_obeyed (Obeyed order n now) = true
is_obeyed _ = false

abbrev pub obeyed : List Deed → ℕ
obeyed deeds = count_by is_obeyed deeds

abbrev pub is_unheeded : Deed → Bool
is_unheeded (Unheeded order n now) = true
is_unheeded _ = false

abbrev pub unheeded : List Deed → ℕ
unheeded deeds = count_by is_unheeded deeds

-- ---- what each one is

-- the change behind so many first ones is such a one, over these
abbrev pub IsMade : History → ℕ → (History → Change → Type 0) → Type 0
IsMade h n Own = (c : Change) × (slice_get h n ≡ Some c) × Own (take n h) c

-- over this history the order makes no change: it is of no request that is held, or there is no room for its change
abbrev pub IsVain : History → Order → ℕ → Type 0
IsVain h order now = (Awaits h order → ⊥) ⊎ ((c : Change) × IsOrder order (event_time h now) c × IsTrue (is_full h c))

-- the change releases or denies the held request of the order, at the time of the event
abbrev pub Obeys : Order → ℕ → History → Change → Type 0
Obeys order now h c = Awaits h order × IsOrder order (event_time h now) c

-- it was done so
abbrev pub IsDeed : History → Deed → Type 0
IsDeed h (Obeyed order n now) = IsMade h n (Obeys order now)
IsDeed h (Unheeded order n now) = IsVain (take n h) order now
IsDeed h (Lapsed n now) = IsMade h n (λ g c. IsLapse g (event_time g now) c)

-- they were done so, one after the other, to a history that had so many changes before the first: what stood before one is no less
-- than what stood after the one before it, and no more than stands in the end
abbrev pub AreDeeds : History → ℕ → List Deed → Type 0
AreDeeds h floor [] = floor ≤ length h
AreDeeds h floor (d ∷ ds) = (floor ≤ before_of d) × IsDeed h d × AreDeeds h (after_of d) ds

-- no certificate waits until this reading or an earlier time; or there is no room for the lapse of the next one
abbrev pub IsCaughtUp : History → ℕ → Type 0
IsCaughtUp h now = AllAfter h (event_time h now) h ⊎ ((c : Change) × IsLapse h (event_time h now) c × IsTrue (is_full h c))
