use Rattle.std.proofs.Common.{ℕ, ◌+◌, ◌-◌, ◌*◌}
use Rattle.turn_bench.proofs.locked.+fn-take_all-join+arg3+take_all.Given as goal

-- the threads that are left to start
abbrev pub decreases-join+arg3 : goal.decreases-join+arg3
decreases-join+arg3 g l = 2 * l.rest + 1

abbrev pub decreases-take_all : goal.decreases-take_all
decreases-take_all g l = 2 * l.threads
