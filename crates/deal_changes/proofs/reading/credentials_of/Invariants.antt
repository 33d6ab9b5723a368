-- What was read so far, and what is still read, is what is read of all the octets.
use Rattle.std.proofs.Common.{◌≡◌, ◌-◌}
use Rattle.deal_changes.specs.Reading.{credentials_at}
use Rattle.deal_changes.proofs.Loop.{with_front}
use Rattle.deal_changes.proofs.reading.credentials_of.Given as goal

abbrev pub invariant-loop : goal.invariant-loop
invariant-loop l = with_front l.list.items (credentials_at (l.count - l.counter) l.rest) ≡ credentials_at l.count l.bytes
