-- A link in memory, as contracts see it.
use Rattle.std.specs.Prelude.{ℕ, Bool, List, take, drop, Some}
use Rattle.cmp_links.specs.declared.mem_link.MemLink.{MemLink}
use Rattle.cmp_links.specs.Calls.{is_due, listed_of}
use Rattle.cmp_links.specs.Links.{IsUntouched}

-- the octets that were not read yet
abbrev pub left_of : MemLink → List ℕ
left_of l = drop l.at l.content.items

-- the octets that were read
abbrev pub gave_of : MemLink → List ℕ
gave_of l = take l.at l.content.items

-- the octets that were written
abbrev pub written_of : MemLink → List ℕ
written_of l = l.written.items

-- how many calls failed
abbrev pub faults_of : MemLink → ℕ
faults_of l = l.calls.faults

-- the numbers of the calls that fail, counted from 1, reads and writes together
abbrev pub fails_of : MemLink → List ℕ
fails_of l = listed_of l.calls

-- how many reads and writes were asked for
abbrev pub calls_of : MemLink → ℕ
calls_of l = l.calls.made

-- the next call is one that fails, whatever memory there is
abbrev pub is_call_due : MemLink → Bool
is_call_due l = is_due l.calls

-- no call failed, and nothing was read or written
abbrev pub IsFresh : MemLink → Type 0
IsFresh l = IsUntouched (faults_of l) (Some (gave_of l)) (Some (written_of l))
