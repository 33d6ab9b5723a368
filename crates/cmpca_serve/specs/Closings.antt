-- What is left behind a turnstile once all rounds are made.
use Rattle.std.specs.Prelude.{◌≡◌, ℕ, ◌+◌, List, ◌++◌, Option, None}
use Rattle.cmp_ports.specs.declared.order.Order.{Order}
use Rattle.deal_changes.specs.declared.change.Change.{Change}
use Rattle.deal_table.specs.History.{Begins}
use Rattle.rounds.specs.declared.round.Round.{Round}
use Rattle.rounds.specs.Rounds.{IsLastRound, IsUsedUp, both}
use Rattle.turnstile.specs.declared.view.View.{View}
use Rattle.workers.specs.Accounts.{IsClean}
use Rattle.workers.specs.Badges.{seen_by, places_by, share_by}
use Rattle.workers.specs.declared.account.Account.{Account}
use Rattle.workers.specs.declared.upkeep.Upkeep.{Upkeep}

-- A last round was made behind a first one, by a seat with the view old, which has the view new then: neither stopped, no order is left,
-- and this round is both.
pub record IsClosed (old new : View Change) (first round : Round) (left after : Option (List Order)) (coming later : Option (ℕ → ℕ)) : Type 0 where
  pub share : new.share ≡ old.share
  pub last : Round
  pub made : IsLastRound (record { seen = old.seen; mine = old.mine; left = left; coming = coming }) (record { seen = new.seen; mine = new.mine; left = after; coming = later }) last
  pub grown : Begins old.seen new.seen
  pub none : IsUsedUp left after
  pub whole : round ≡ both first last
  pub over : round.stop ≡ None

-- Of what workers left and of what was done beside them nothing failed, and a last round was made by a seat that had seen as much as both,
-- has the places of both and counts for both.
pub record IsClosing (a : Account) (u : Upkeep) (new : View Change) (round : Round) (left after : Option (List Order)) (coming later : Option (ℕ → ℕ)) : Type 0 where
  pub clean : IsClean a
  pub whole : u.round.stop ≡ None
  pub old : View Change
  pub served : Begins (seen_by a.badge.views) old.seen
  pub kept : Begins (seen_by u.badge.views) old.seen
  pub places : old.mine ≡ places_by a.badge.views ++ places_by u.badge.views
  pub share : old.share ≡ share_by a.badge.views + share_by u.badge.views
  pub closed : IsClosed old new u.round round left after coming later
