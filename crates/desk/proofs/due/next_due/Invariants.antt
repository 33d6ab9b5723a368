-- The next one of the changes so far was found.
use Rattle.std.proofs.Common.{take}
use Rattle.desk.specs.Due.{IsFoundNext}
use Rattle.desk.proofs.due.next_due.Given as goal

abbrev pub invariant-loop-c : goal.invariant-loop-c
invariant-loop-c l = IsFoundNext l.h (take l.c-index l.h) l.next
