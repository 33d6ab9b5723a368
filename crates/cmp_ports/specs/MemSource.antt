-- A source in memory, as contracts see it.
use Rattle.std.specs.Prelude.{ℕ, List, Bool, drop}
use Rattle.cmp_ports.specs.declared.mem_source.MemSource.{MemSource}
use Rattle.cmp_ports.specs.Schedule.{counted, is_among}
use Rattle.cmp_ports.specs.Schedule as schedule

-- the octets that were not read yet
abbrev pub left_of : MemSource → List ℕ
left_of s = drop s.at s.content.items

-- how many reads failed
abbrev pub faults_of : MemSource → ℕ
faults_of s = s.schedule.faults

-- the numbers of the reads that fail, counted from 1
abbrev pub listed_of : MemSource → List ℕ
listed_of s = schedule.listed_of s.schedule

-- how many reads were asked for
abbrev pub calls_of : MemSource → ℕ
calls_of s = s.schedule.calls

-- the next read is one that fails
abbrev pub is_due : MemSource → Bool
is_due s = is_among (listed_of s) (counted (calls_of s))
