-- A write that is interrupted adds nothing.
use Rattle.std.specs.Io.KnownBytes.{Keeps}
use Rattle.cmp_ports.proofs.again.write_again.Given as goal

abbrev pub invariant-loop : goal.invariant-loop
invariant-loop g l = Keeps (g.W.Write.contents l.initial.writer) (g.W.Write.contents l.writer)
