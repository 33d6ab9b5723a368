-- A sink in memory, as contracts see it.
use Rattle.std.specs.Prelude.{ℕ, List, Bool}
use Rattle.cmp_ports.specs.declared.mem_sink.MemSink.{MemSink}
use Rattle.cmp_ports.specs.Schedule.{counted, is_among}
use Rattle.cmp_ports.specs.Schedule as schedule

-- what was written
abbrev pub written_of : MemSink → List ℕ
written_of s = s.content.items

-- how many writes failed
abbrev pub faults_of : MemSink → ℕ
faults_of s = s.schedule.faults

-- the numbers of the writes that fail, counted from 1
abbrev pub listed_of : MemSink → List ℕ
listed_of s = schedule.listed_of s.schedule

-- how many writes were asked for
abbrev pub calls_of : MemSink → ℕ
calls_of s = s.schedule.calls

-- the next write is one that fails, whatever memory there is
abbrev pub is_due : MemSink → Bool
is_due s = is_among (listed_of s) (counted (calls_of s))
