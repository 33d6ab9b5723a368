-- What serving made of a history, beside its sessions.
use Rattle.std.specs.Prelude.{◌≡◌, ℕ, List, [], ◌∷◌, ◌++◌, length, Option, None, count_by}
use Rattle.std.specs.List.{AllByRecursion}
use Rattle.cmp_ports.specs.Coming.{GivesAll}
use Rattle.cmp_ports.specs.declared.order.Order.{Order}
use Rattle.deal_changes.specs.declared.change.Change.{Change}
use Rattle.deal_model.specs.Views.{History}
use Rattle.deal_table.specs.History.{Begins}
use Rattle.rounds.specs.declared.round.Round.{Round}
use Rattle.rounds.specs.Deeds.{Deed, AreDeeds, IsCaughtUp, reading_of, orders_in, places_in, obeyed, unheeded}
use Rattle.rounds.specs.Rounds.{IsAmong, IsLastRound, IsRound, IsUsedUp, TakesAll, both}
use Rattle.cmpca_serve.specs.Parts.{AreAll, IsNoOrder, is_order_change}
use Rattle.cmpca_serve.specs.Texts.{summary}

-- The history h0 became h, and this text tells it: each change gained stands at the place of a session's change, or is a deed, and at no
-- two of them. The deeds account for the orders taken, in their order, and none is left; each is at the time of a reading of the clock.
-- As many of the changes gained are orders as were obeyed. At the last reading nothing more is due, or the journal is full.
pub record IsToldRun (h0 h : History) (sessions : List ℕ) (connections : ℕ) (old new : Option (List Order)) (before after : Option (ℕ → ℕ)) (text : List ℕ) : Type 0 where
  pub gained : List Change
  pub grown : h ≡ h0 ++ gained
  pub deeds : List Deed
  pub done : AreDeeds h (length h0) deeds
  pub every : AreAll (length h0) (length h) (sessions ++ places_in deeds)
  pub taken : TakesAll old new (orders_in deeds)
  pub none : IsUsedUp old new
  pub readings : List ℕ
  pub last : ℕ
  pub reads : GivesAll before after (readings ++ last ∷ [])
  pub among : AllByRecursion (λ d. IsAmong (readings ++ last ∷ []) (reading_of d)) deeds
  pub orders : count_by is_order_change gained ≡ obeyed deeds
  pub says : text ≡ summary connections (length h) (obeyed deeds) (unheeded deeds)
  pub due : IsCaughtUp h last

-- The rounds of a run tell it: those that were made while sessions were served, by a clerk with no place of its own at first, and the
-- last one, by a clerk that has the places of both. All of its places at the end are those of the changes that were gained.
abbrev pub RoundsTell : Type 0
RoundsTell = (h0 seen h1 h : History) (sessions own all : List ℕ) (connections : ℕ) (o0 o1 o2 : Option (List Order)) (r0 r1 r2 : Option (ℕ → ℕ)) (first last : Round)
    → IsRound (record { seen = h0; mine = []; left = o0; coming = r0 }) (record { seen = seen; mine = own; left = o1; coming = r1 }) first
    → first.stop ≡ None
    → Begins h0 seen
    → Begins seen h1
    → IsLastRound (record { seen = h1; mine = sessions ++ own; left = o1; coming = r1 }) (record { seen = h; mine = all; left = o2; coming = r2 }) last
    → Begins h1 h
    → AreAll (length h0) (length h) all
    → IsUsedUp o1 o2
    → (both first last).stop ≡ None
    → AllByRecursion (IsNoOrder h) sessions
    → IsToldRun h0 h sessions connections o0 o2 r0 r2 (summary connections (length h) (both first last).done (both first last).refused)
