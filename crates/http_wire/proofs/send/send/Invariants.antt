-- The octets so far are written, without a fault.
use Rattle.std.proofs.Common.{◌≡◌, ◌-◌, ◌≤◌, length, take}
use Rattle.std.specs.Io.KnownBytes.{Appends, Keeps}
use Rattle.http_wire.proofs.send.send.Given as goal

abbrev pub invariant-loop-done : goal.invariant-loop-done
invariant-loop-done g l = record {
  within : l.done ≤ length l.octets;
  written : Appends (g.L.Link.written l.initial.link) (g.L.Link.written l.link) (take l.done l.octets);
  left : Keeps (g.L.Link.left l.initial.link) (g.L.Link.left l.link);
  gave : Keeps (g.L.Link.gave l.initial.link) (g.L.Link.gave l.link);
  faults : g.L.Link.faults l.link ≡ g.L.Link.faults l.initial.link;
}

abbrev pub decreases-loop-done : goal.decreases-loop-done
decreases-loop-done g l = length l.octets - l.done
