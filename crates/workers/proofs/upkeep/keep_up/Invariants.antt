use Rattle.std.proofs.Common.{◌≡◌, None}
use Rattle.rounds.specs.Rounds.{IsRound}
use Rattle.rounds.specs.Stays.{Stays}
use Rattle.workers.proofs.upkeep.keep_up.Given as goal

-- the rounds so far are one, which came to its end
abbrev pub invariant-loop : goal.invariant-loop
invariant-loop g l = IsRound (record { seen = g.K.Clerk.seen l.initial.clerk; mine = g.K.Clerk.mine l.initial.clerk; left = g.O.Orders.left l.initial.orders; coming = g.C.Clock.readings l.initial.clock }) (record { seen = g.K.Clerk.seen l.clerk; mine = g.K.Clerk.mine l.clerk; left = g.O.Orders.left l.orders; coming = g.C.Clock.readings l.clock }) l.round
    × Stays g.K.Clerk l.initial.clerk l.clerk × (g.C.Clock.loan l.clock ≡ g.C.Clock.loan l.initial.clock) × (l.round.stop ≡ None)
    × (g.O.Orders.faults l.orders ≡ g.O.Orders.faults l.initial.orders) × (g.K.Clerk.faults l.clerk ≡ g.K.Clerk.faults l.initial.clerk)
