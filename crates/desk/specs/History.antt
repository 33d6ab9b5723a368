-- The history of a desk, as all other clauses name it: how a desk keeps it is no concern of theirs.
use Rattle.std.specs.Prelude.{List}
use Rattle.cmp_ports.specs.declared.disk.Disk.{Ghosts}
use Rattle.deal_changes.specs.declared.change.Change.{Change}
use Rattle.deal_model.specs.Views.{History}
use Rattle.desk.specs.declared.desk.Desk.{Desk}

abbrev pub history_of : {D : Type 0} {g : Ghosts D} → Desk D g → History
history_of desk = desk.history.items

-- the changes among the entries by which a desk is known at a turnstile: each entry is a change
abbrev pub changes_in : List Change → History
changes_in entries = entries
