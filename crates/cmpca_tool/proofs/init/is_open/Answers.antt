-- What was read tells of the first octet.
use Rattle.std.proofs.Common.{◌<◌, length, arith}
use Rattle.cmpca_tool.proofs.FoundLemmas.{first_then, first_else}
use Rattle.cmpca_tool.proofs.init.is_open.Goals as goal

pub returns-then-count-gt0-clause-told : goal.returns-then-count-gt0-clause-told
returns-then-count-gt0-clause-told g c = λ f told. first_then c.in_ok-count.count c.read_at.new.into f c.if-count-gt0.true c.in_ok-count.ensures.bound (c.in_ok-count.ensures.octets f told)

pub returns-else-count-gt0-clause-told : goal.returns-else-count-gt0-clause-told
returns-else-count-gt0-clause-told g c = λ f told.
    let room : 0 < length c.read_at.new.into = omega arith in
    first_else c.in_ok-count.count f c.if-count-gt0.false (c.in_ok-count.ensures.end f told (omega (arith, c.if-count-gt0.false)) room)
