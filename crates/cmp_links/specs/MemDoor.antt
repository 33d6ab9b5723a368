-- A door in memory, as contracts see it.
use Rattle.std.specs.Prelude.{ℕ, Bool, List, [], ◌∷◌, ◌++◌, Option, Some, None}
use Rattle.cmp_links.specs.declared.mem_link.MemLink.{MemLink}
use Rattle.cmp_links.specs.declared.mem_door.MemDoor.{MemDoor}
use Rattle.std.specs.Global.{Box}
use Rattle.cmp_links.specs.Calls.{is_due, listed_of}
use Rattle.cmp_links.specs.declared.end.SessionEnd.{SessionEnd}
use Rattle.cmp_links.specs.declared.mem_door.Finished.{Finished, Finished', Held-Finished-before, None', Some', out-Finished}

-- the streams that were taken back up to one, the first of them first
abbrev mutual
  pub finished_from : Finished → List (MemLink × SessionEnd)
  finished_from (Finished' link end before) = finished_before before ++ (link, end) ∷ []

  pub finished_before : Held-Finished-before → List (MemLink × SessionEnd)
  finished_before None' = []
  finished_before (Some' p f) = finished_from f

-- the stream
abbrev pub link_of : Finished → MemLink
link_of f = (out-Finished f).link

-- the end of the session over it
abbrev pub end_of : Finished → SessionEnd
end_of f = (out-Finished f).end

-- those that were taken back before it
abbrev pub before_of : Finished → List (MemLink × SessionEnd)
before_of (Finished' link end before) = finished_before before

-- the links that are left
abbrev pub links_of : MemDoor → List MemLink
links_of d = d.links.items

-- the streams that were taken back, each with the end of its session, the first of them first
abbrev pub finished_up_to : Option (Box Finished) → List (MemLink × SessionEnd)
finished_up_to None = []
finished_up_to (Some last) = finished_from last.value

abbrev pub finished_of : MemDoor → List (MemLink × SessionEnd)
finished_of d = finished_up_to d.last

-- how many streams were accepted, and how many taken back
abbrev pub door_accepted : MemDoor → ℕ
door_accepted d = d.accepted

abbrev pub door_ended : MemDoor → ℕ
door_ended d = d.ended

-- how many calls failed
abbrev pub door_faults : MemDoor → ℕ
door_faults d = d.calls.faults

-- the numbers of the calls of accept that fail, counted from 1, and how many there were
abbrev pub door_fails : MemDoor → List ℕ
door_fails d = listed_of d.calls

abbrev pub door_calls : MemDoor → ℕ
door_calls d = d.calls.made

-- the next call of accept is one that fails, whatever there is
abbrev pub is_door_due : MemDoor → Bool
is_door_due d = is_due d.calls
