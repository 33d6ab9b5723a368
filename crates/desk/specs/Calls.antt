-- How the desk's calls end, from the history h and the change d in doubt before to those after, g and e.
use Rattle.std.specs.Prelude.{◌≡◌, ◌⊎◌, ℕ, ◌+◌, ◌≤◌, ◌^◌, Bool, ◌||◌, nat_le, nat_lt, List, [], ◌∷◌, ◌++◌, length, Option, Some, None, IsSome, IsTrue}
use Rattle.cmp_ports.specs.declared.order.Order.{Order}
use Rattle.cmp_ports.specs.declared.order.Order.TheVariants as orders
use Rattle.deal_changes.specs.declared.change.Change.{Change}
use Rattle.deal_changes.specs.declared.change.Change.TheVariants.{Release, Deny, Lapse}
use Rattle.deal_changes.specs.Spelling.{IsChange}
use Rattle.deal_changes.specs.Times.{time_of_change}
use Rattle.deal_model.specs.declared.states.DealState.TheVariants.{Held}
use Rattle.deal_model.specs.Views.{History, time_of, is_found, is_empty, transaction_state}
use Rattle.deal_model.specs.Rules.{Holds, size_of, log_size, Allowed}
use Rattle.desk.specs.declared.answers.Added.{Added}
use Rattle.desk.specs.declared.answers.Added.TheVariants as added
use Rattle.desk.specs.declared.answers.Lapsed.{Lapsed}
use Rattle.desk.specs.declared.answers.Lapsed.TheVariants as lapsed
use Rattle.desk.specs.declared.answers.Ordered.{Ordered}
use Rattle.desk.specs.declared.answers.Ordered.TheVariants as ordered
use Rattle.desk.specs.Due.{AllAfter, IsDue}

-- ---- one change

-- the change may come next, but for the room that it takes
pub record Fits (h : History) (c : Change) : Type 0 where
  pub form : IsChange c
  pub later : time_of h ≤ time_of_change c
  pub bounded : time_of_change c ≤ 250000000000
  pub opening : is_found c ≡ is_empty h
  pub holds : Holds h c

-- 262,144 changes stand, or the log with this one would have more than 2^30 octets
abbrev pub is_full : History → Change → Bool
is_full h c = nat_le 262144 (length h) || nat_lt (2 ^ 30) (log_size h + size_of c)

-- history and doubt are as before
abbrev pub IsSame : History → Option Change → History → Option Change → Type 0
IsSame h d g e = (g ≡ h) × (e ≡ d)

-- The change joins the history, and nothing is in doubt; or there is no room for it, whether what was in doubt is settled or
-- not; or it is in doubt, or what was in doubt still is; or memory ran out.
abbrev pub IsAdded : History → Option Change → Change → Added → History → Option Change → Type 0
IsAdded h d c added.Done g e = Allowed h c × (g ≡ h ++ c ∷ []) × (e ≡ None)
IsAdded h d c added.Full g e = IsTrue (is_full h c) × (g ≡ h) × ((e ≡ None) ⊎ (e ≡ d))
IsAdded h d c added.DiskFault g e = (g ≡ h) × ((e ≡ Some c) ⊎ (IsSome d × (e ≡ d)))
IsAdded h d c added.NoMemory g e = IsSame h d g e

-- ---- lapses

-- Nothing exactly where no deadline is at most the time
abbrev pub IsLapsed : History → Option Change → ℕ → Lapsed → History → Option Change → Type 0
IsLapsed h d time (lapsed.Done place tid) g e = IsDue h time tid × IsAdded h d (Lapse time tid) added.Done g e × (place ≡ length g)
IsLapsed h d time lapsed.Nothing g e = AllAfter h time h × IsSame h d g e
IsLapsed h d time lapsed.Full g e = (tid : List ℕ) × IsDue h time tid × IsAdded h d (Lapse time tid) added.Full g e
IsLapsed h d time lapsed.DiskFault g e = (tid : List ℕ) × IsDue h time tid × IsAdded h d (Lapse time tid) added.DiskFault g e
IsLapsed h d time lapsed.NoMemory g e = IsSame h d g e

-- how a lapse ends whose change was added so
abbrev pub lapse_end : Added → ℕ → List ℕ → Lapsed
lapse_end added.Done place tid = lapsed.Done place tid
lapse_end added.Full place tid = lapsed.Full
lapse_end added.DiskFault place tid = lapsed.DiskFault
lapse_end added.NoMemory place tid = lapsed.NoMemory

-- ---- orders

-- the change of an order
abbrev pub order_change : Order → ℕ → Option Change
order_change (orders.Release tid) time = Some (Release time tid)
order_change (orders.Deny tid) time = Some (Deny time tid)
order_change orders.Bad time = None

abbrev pub IsOrder : Order → ℕ → Change → Type 0
IsOrder order time c = order_change order time ≡ Some c

-- the order is of a request that is held
abbrev pub Awaits : History → Order → Type 0
Awaits h (orders.Release tid) = transaction_state h tid ≡ Held
Awaits h (orders.Deny tid) = transaction_state h tid ≡ Held
Awaits h orders.Bad = ⊥

-- an order of a held request ends so
abbrev pub IsObeyed : History → Option Change → Order → ℕ → Added → History → Option Change → Type 0
IsObeyed h d order time end g e = Awaits h order × ((c : Change) × IsOrder order time c × IsAdded h d c end g e)

abbrev pub IsOrdered : History → Option Change → Order → ℕ → Ordered → History → Option Change → Type 0
IsOrdered h d order time (ordered.Done place) g e = IsObeyed h d order time added.Done g e × (place ≡ length g)
IsOrdered h d order time ordered.NotHeld g e = (Awaits h order → ⊥) × IsSame h d g e
IsOrdered h d order time ordered.Full g e = IsObeyed h d order time added.Full g e
IsOrdered h d order time ordered.DiskFault g e = IsObeyed h d order time added.DiskFault g e
IsOrdered h d order time ordered.NoMemory g e = IsSame h d g e

-- how an order ends whose change was added so
abbrev pub order_end : Added → ℕ → Ordered
order_end added.Done place = ordered.Done place
order_end added.Full place = ordered.Full
order_end added.DiskFault place = ordered.DiskFault
order_end added.NoMemory place = ordered.NoMemory
