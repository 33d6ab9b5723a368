use Rattle.std.proofs.Common.{◌≡◌, drop}
use Rattle.cmp_ports.specs.Replay.{left_after}
use Rattle.cmp_ports.proofs.mem_disk.stop.left.Given as goal

-- what the calls that are left make of it is what all make
abbrev pub invariant-loop-call : goal.invariant-loop-call
invariant-loop-call l = left_after l.choice l.file.items l.image.items (drop l.call-index l.calls) ≡ left_after l.choice l.first l.first l.calls
