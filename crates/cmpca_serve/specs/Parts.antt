-- How the changes that a history gained are told: by the messages of sessions, by the orders that were taken, and by what lapsed.
use Rattle.std.specs.Prelude.{◌≡◌, ℕ, ◌-◌, Bool, true, false, List, ◌++◌, length, Option, Some, count_by}
use Rattle.std.specs.List.{AllByRecursion, slice_get}
use Rattle.deal_changes.specs.declared.change.Change.{Change}
use Rattle.deal_changes.specs.declared.change.Change.TheVariants.{Release, Deny}
use Rattle.deal_model.specs.Views.{History}
use Rattle.rounds.specs.Deeds.{Deed, AreDeeds, places_in, obeyed}
use Rattle.cmp_links.specs.declared.end.SessionEnd.{SessionEnd}
use Rattle.reply_maker.specs.Replies.{Replier}
use Rattle.sessions.specs.Events.{Event, Lost, done_places, lost_places}
use Rattle.sessions.specs.Sessions.{IsSession}
use Rattle.turnstile.specs.Lists.{times, once}

-- an order of the operator's
abbrev pub is_order_change : Change → Bool
is_order_change (Release time tid) = true
is_order_change (Deny time tid) = true
is_order_change _ = false

-- at the place, counted from 1, stands a change that is no order
abbrev pub IsNoOrder : History → ℕ → Type 0
IsNoOrder h place = (c : Change) × (slice_get h (place - 1) ≡ Some c) × (is_order_change c ≡ false)

-- each place behind so many changes, up to so many, stands once among these, and no other place does
abbrev pub AreAll : ℕ → ℕ → List ℕ → Type 0
AreAll opening len places = (p : ℕ) → times p places ≡ once opening len p

-- Where the changes gained are those of sessions, of which none is an order, and those of deeds, as many of them are orders as were obeyed.
abbrev pub OrdersAreObeyed : Type 0
OrdersAreObeyed = (h more : History) (made : List ℕ) (floor : ℕ) (deeds : List Deed)
    → AreAll (length h) (length (h ++ more)) (made ++ places_in deeds)
    → AllByRecursion (IsNoOrder (h ++ more)) made
    → AreDeeds (h ++ more) floor deeds
    → count_by is_order_change more ≡ obeyed deeds

-- No session makes an order: at the places of its changes stand changes that messages make.
abbrev pub SessionsMakeNoOrders : Type 0
SessionsMakeNoOrders = (k : Replier) (h0 h : History) (left before after : Option (List ℕ)) (faults now : ℕ) (readings : List ℕ) (draws : List (Option (List ℕ))) (end : SessionEnd) (events : List Event) (lost : Option Lost)
    → IsSession k h0 h left before after faults now readings draws end events lost
    → AllByRecursion (IsNoOrder h) (done_places end.notes ++ lost_places lost)
