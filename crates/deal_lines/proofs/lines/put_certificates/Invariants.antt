-- The lines of the changes so far stand behind the text.
use Rattle.std.proofs.Common.{◌≡◌, ◌++◌, take}
use Rattle.std.specs.List.{flat_map}
use Rattle.deal_lines.specs.Lines.{granted}
use Rattle.deal_lines.proofs.lines.put_certificates.Given as goal

abbrev pub invariant-loop-c : goal.invariant-loop-c
invariant-loop-c l = l.out ≡ l.fn.out ++ flat_map (granted l.h) (take l.c-index l.h)
