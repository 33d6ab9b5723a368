-- What contracts see of a history with its index.
use Rattle.std.specs.Prelude.{ℕ, ◌≤◌, ◌*◌, length}
use Rattle.deal_changes.specs.declared.change.Change.{Change}
use Rattle.deal_model.specs.Views.{History, entries_of}

-- the history, and how much room is left: for changes, for first places, for last ones
pub record Kept : Type 0 where
  pub history : History
  pub change_room : ℕ
  pub first_room : ℕ
  pub last_room : ℕ

-- There is room for the change: at most three questions ask for it for each credential that it lists, and at most five for
-- another change.
abbrev pub HasRoom : Kept → Change → Type 0
HasRoom k c = (1 ≤ k.change_room) × (5 ≤ k.first_room) × (3 * length (entries_of c) ≤ k.first_room) × (1 ≤ k.last_room)
