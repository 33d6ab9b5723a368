-- What a disk in memory tells.
use Rattle.std.specs.Prelude.{◌≡◌, ◌⊎◌, ℕ, Bool, List, [], ◌∷◌, ◌++◌, Result, IsErr, IsTrue}
use Rattle.cmp_ports.specs.declared.mem_disk.call.Call.{Call}
use Rattle.cmp_ports.specs.declared.mem_disk.MemDisk.{MemDisk}
use Rattle.cmp_ports.specs.Disk.{Every}
use Rattle.cmp_ports.specs.Faults.{counted, CountedOnce}
use Rattle.cmp_ports.specs.Schedule.{listed_of, is_due}
use Rattle.cmp_ports.specs.Tape.{tape_first, tape_images, tape_moment, tape_since}

-- what reads give
abbrev pub memory_content : MemDisk → List ℕ
memory_content d = d.tape.octets.items

-- what they gave before the first call
abbrev pub memory_first : MemDisk → List ℕ
memory_first d = tape_first d.tape

-- the calls so far, the first of them first
abbrev pub memory_calls : MemDisk → List Call
memory_calls d = d.tape.calls.items

-- what a crash may leave now
abbrev pub memory_images : MemDisk → List ℕ → Type 0
memory_images d = tape_images d.tape

abbrev pub memory_moment : MemDisk → ℕ
memory_moment d = tape_moment d.tape

abbrev pub memory_since : MemDisk → ℕ → List ℕ → Type 0
memory_since d = tape_since d.tape

-- how often it has failed
abbrev pub memory_faults : MemDisk → ℕ
memory_faults d = d.schedule.faults

-- it is owned
abbrev pub memory_loan : MemDisk → ℕ
memory_loan d = 0

-- the numbers of the calls that fail, counted from 1, and how many calls there were
abbrev pub memory_listed : MemDisk → List ℕ
memory_listed d = listed_of d.schedule

abbrev pub memory_made : MemDisk → ℕ
memory_made d = d.schedule.calls

-- the next call is one that fails
abbrev pub is_call_due : MemDisk → Bool
is_call_due d = is_due d.schedule

-- The call is on the record as this one; or it failed, for want of memory where its number isn't listed, and the record stands.
abbrev pub Records : {T E : Type 0} → MemDisk → MemDisk → Result T E → Call → Type 0
Records old new result call = (memory_calls new ≡ memory_calls old ++ call ∷ []) ⊎ (IsErr result × (memory_calls new ≡ memory_calls old))

-- A call of a disk in memory fails where its number is listed, and else for want of memory alone, which leaves it off the record. A
-- fault is counted once, and a call too. The octets at first are the same.
pub record Plays {T E : Type 0} (old new : MemDisk) (result : Result T E) : Type 0 where
  pub listed : memory_listed new ≡ memory_listed old
  pub made : memory_made new ≡ counted (memory_made old)
  pub faults : CountedOnce (memory_faults old) (memory_faults new) result
  pub first : memory_first new ≡ memory_first old
  pub due : IsTrue (is_call_due old) → IsErr result
  pub no_other : IsErr result → IsTrue (is_call_due old) ⊎ (memory_calls new ≡ memory_calls old)

-- a disk that was never called, and has these octets
pub record IsFresh (octets : List ℕ) (d : MemDisk) : Type 0 where
  pub content : memory_content d ≡ octets
  pub first : memory_first d ≡ octets
  pub images : Every (memory_images d) (λ c. c ≡ octets)
  pub calls : memory_calls d ≡ []
  pub faults : memory_faults d ≡ 0
