use Rattle.std.proofs.Common.{◌≡◌, List, length, false}
use Rattle.sessions.specs.Links.{parts_of}
use Rattle.workers.specs.Doors.{IsDoorServed, Served}
use Rattle.workers.proofs.doors.serve_door.Given as goal

-- a stream was served each time, and no door failed
abbrev pub invariant-loop : goal.invariant-loop
invariant-loop g l = (streams : List (Served g.row.S-Joined.Denot)) × IsDoorServed g.S.Joined.Link g.S.Door g.K.Clerk g.C.Clock g.E.Entropy (parts_of l.initial.front) (parts_of l.front) l.initial.door l.door streams l.tally × (length streams ≡ l.counter) × (l.tally.door ≡ false)
