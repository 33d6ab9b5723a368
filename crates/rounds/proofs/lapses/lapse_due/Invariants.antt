-- So far each call lapsed one.
use Rattle.std.proofs.Common.{◌≡◌, ◌-◌, length}
use Rattle.rounds.specs.Stays.{Stays}
use Rattle.rounds.proofs.StepLemmas.{DueSoFar}
use Rattle.rounds.proofs.lapses.lapse_due.Given as goal

abbrev pub invariant-loop-round : goal.invariant-loop-round
invariant-loop-round g l = record {
  so_far : DueSoFar (g.K.Clerk.seen l.fn.clerk) (g.K.Clerk.seen l.clerk) (g.K.Clerk.mine l.fn.clerk) (g.K.Clerk.mine l.clerk) (g.C.Clock.readings l.fn.clock) (g.C.Clock.readings l.clock);
  stays : Stays g.K.Clerk l.fn.clerk l.clerk;
  clock : g.C.Clock.loan l.clock ≡ g.C.Clock.loan l.fn.clock;
  disk : g.K.Clerk.faults l.clerk ≡ g.K.Clerk.faults l.fn.clerk;
}

-- how many changes the history has room for
abbrev pub decreases-loop-round : goal.decreases-loop-round
decreases-loop-round g l = 262144 - length (g.K.Clerk.seen l.clerk)
