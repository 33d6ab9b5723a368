use Rattle.std.proofs.Common.{arith}
use Rattle.desk.proofs.DueLemmas.{none_after, next_after}
use Rattle.desk.proofs.lapsing.due_by.Goals as goal

pub returns-in-None : goal.returns-in-None
returns-in-None c = none_after c.args.h.now c.args.time c.args.h.now c.in-None.ensures

pub returns-else-due-time : goal.returns-else-due-time
returns-else-due-time c = next_after c.args.h.now c.args.time c.args.h.now c.in-Some.due.tid c.in-Some.due.deadline c.in-Some.ensures (omega (arith, c.if-due-time.false))
