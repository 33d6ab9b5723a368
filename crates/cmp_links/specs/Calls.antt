-- Which calls of a link or a door in memory fail.
use Rattle.std.specs.Prelude.{ℕ, Bool, List}
use Rattle.cmp_ports.specs.Schedule.{counted, is_among, numbers_of}
use Rattle.cmp_links.specs.declared.calls.Calls.{Calls}

-- the numbers of the calls that fail, counted from 1
abbrev pub listed_of : Calls → List ℕ
listed_of c = numbers_of c.fails

-- the next call is one that fails
abbrev pub is_due : Calls → Bool
is_due c = is_among (listed_of c) (counted c.made)
