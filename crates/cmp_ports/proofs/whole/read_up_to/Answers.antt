-- A piece for which there is no room was taken too.
use Rattle.std.proofs.Common.{◌+◌, ◌≤◌, ◌++◌, length, take, rules}
use Rattle.std.proofs.KnownBytes.{Consumes-trans}
use Rattle.cmp_ports.proofs.StreamLemmas.{longer_front}
use Rattle.cmp_ports.proofs.whole.read_up_to.Goals as goal

pub returns-in_err-extend_from_slice-clause-within : goal.returns-in_err-extend_from_slice-clause-within
returns-in_err-extend_from_slice-clause-within g c =
    let front = c.loop-piece.octets.items in
    let into = c.read.new.into in
    let given : c.in_ok-count.count ≤ length into = search rules in
    let room : length into + length front ≤ c.args.limit + 1 = search rules in
    (front ++ take c.in_ok-count.count into, Consumes-trans _ _ _ front _ c.loop-piece.invariant.octets c.in_ok-count.ensures.bytes.0, longer_front front into c.in_ok-count.count (c.args.limit + 1) given room)
