use Prim.Native.Nat.{◌+◌, ◌-◌, ◌*◌}
use Rattle.std.specs.Prelude.{length}
use Rattle.workers.proofs.crew.+halves.Given as goal

abbrev pub decreases-work_all : goal.decreases-work_all
decreases-work_all g l = 3 * length l.stations.now

abbrev pub decreases-both : goal.decreases-both
decreases-both g l = 3 * (length l.front.now + length l.back.now) - 1

abbrev pub decreases-both-at_front : goal.decreases-both-at_front
decreases-both-at_front g l = 3 * length l.front.now + 1

abbrev pub decreases-both-at_back : goal.decreases-both-at_back
decreases-both-at_back g l = 3 * length l.back.now + 1
