use Rattle.std.proofs.Common.{◌≡◌, ◌+◌, ◌-◌, ◌≤◌, vec_len}
use Rattle.std.specs.Io.KnownBytes.{Consumes}
use Rattle.cmp_ports.proofs.whole.read_up_to.Given as goal

-- what was read so far was taken from the front, without a fault
abbrev pub invariant-loop-piece : goal.invariant-loop-piece
invariant-loop-piece g l = record {
  within : vec_len l.octets ≤ l.limit + 1;
  octets : Consumes (g.S.Source.left l.initial.source) (g.S.Source.left l.source) l.octets.items;
  faults : g.S.Source.faults l.source ≡ g.S.Source.faults l.initial.source;
}

abbrev pub decreases-loop-piece : goal.decreases-loop-piece
decreases-loop-piece g l = l.limit + 1 - vec_len l.octets
