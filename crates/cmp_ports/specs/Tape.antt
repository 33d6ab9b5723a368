-- What a tape tells: its octets at first, what a crash may leave now, the moment, and what a crash may have left since.
use Rattle.std.specs.Prelude.{ℕ, List, length, unwrap_or}
use Rattle.cmp_ports.specs.declared.mem_disk.tape.Tape.{Tape}
use Rattle.cmp_ports.specs.Replay.{IsImage, WasImage}

-- the octets before the first call
abbrev pub tape_first : Tape → List ℕ
tape_first t = unwrap_or t.first t.octets.items

abbrev pub tape_images : Tape → List ℕ → Type 0
tape_images t = IsImage (tape_first t) t.calls.items

-- the number of calls on the record
abbrev pub tape_moment : Tape → ℕ
tape_moment t = length t.calls.items

abbrev pub tape_since : Tape → ℕ → List ℕ → Type 0
tape_since t = WasImage (tape_first t) t.calls.items
