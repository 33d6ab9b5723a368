use Rattle.std.proofs.Common.{◌+◌, ◌*◌, ◌≤◌, length, take}
use Rattle.std.specs.List.{flat_map}
use Rattle.indexmap.specs.IndexMap.{spare}
use Rattle.deal_index.specs.Questions.{questions_of_entry}
use Rattle.deal_index.specs.Index.{Notes}
use Rattle.deal_index.proofs.notes.note_entries.Given as goal

-- the questions of the credentials so far are noted, and there is room for the rest
abbrev pub invariant-loop-entry : goal.invariant-loop-entry
invariant-loop-entry l = Notes (flat_map questions_of_entry (take l.entry-index l.list)) l.place l.fn.firsts l.firsts × (3 * length l.list ≤ spare l.firsts + 3 * l.entry-index)
