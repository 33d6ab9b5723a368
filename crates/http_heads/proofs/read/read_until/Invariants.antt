-- What was read so far is kept, without a fault.
use Rattle.std.proofs.Common.{◌≡◌, ◌-◌, length}
use Rattle.std.specs.Io.KnownBytes.{Keeps, prepend_known}
use Rattle.http_heads.specs.Comings.{input}
use Rattle.http_heads.proofs.read.read_until.Given as goal

abbrev pub invariant-loop-link : goal.invariant-loop-link
invariant-loop-link g l = record {
  known : Keeps (prepend_known l.initial.octets (g.L.Link.left l.initial.link)) (prepend_known l.octets (g.L.Link.left l.link));
  input : Keeps (input (g.L.Link.gave l.initial.link) (g.L.Link.left l.initial.link)) (input (g.L.Link.gave l.link) (g.L.Link.left l.link));
  written : Keeps (g.L.Link.written l.initial.link) (g.L.Link.written l.link);
  faults : g.L.Link.faults l.link ≡ g.L.Link.faults l.initial.link;
}

abbrev pub decreases-loop-link : goal.decreases-loop-link
decreases-loop-link g l = l.count - length l.octets
