-- What the worker without a station does: lapses and orders.
use Rattle.std.specs.Prelude.{◌≡◌, ℕ, List, Option}
use Rattle.atomic_table.specs.Seated.{TableId}
use Rattle.cmp_ports.specs.declared.order.Order.{Order}
use Rattle.deal_changes.specs.declared.change.Change.{Change}
use Rattle.deal_table.specs.History.{Begins}
use Rattle.rounds.specs.Rounds.{Sight, IsRound}
use Rattle.turnstile.specs.declared.view.View.{View}
use Rattle.workers.specs.Badges.{seen_by, places_by, share_by, IsAtRest}
use Rattle.workers.specs.declared.upkeep.Upkeep.{Upkeep}

-- a badge, with the orders that are left and the readings to come
abbrev pub sight_by : List (View Change) → Option (List Order) → Option (ℕ → ℕ) → Sight
sight_by views left coming = record { seen = seen_by views; mine = places_by views; left = left; coming = coming }

-- What was done by a badge at a turnstile, which had this view, is one round: the badge counts for as many as before and has seen more, and
-- the places of its changes are those of the round.
pub record IsKeptUp (table : TableId) (before : List (View Change)) (left after : Option (List Order)) (coming later : Option (ℕ → ℕ)) (u : Upkeep) : Type 0 where
  pub rests : IsAtRest table u.badge.table_id u.badge.views
  pub shares : share_by u.badge.views ≡ share_by before
  pub grown : Begins (seen_by before) (seen_by u.badge.views)
  pub round : IsRound (sight_by before left coming) (sight_by u.badge.views after later) u.round
