-- The orders so far were a round, which hasn't stopped.
use Rattle.std.proofs.Common.{◌≡◌, None}
use Rattle.rounds.specs.Rounds.{IsOrderRound}
use Rattle.rounds.specs.Stays.{Stays}
use Rattle.rounds.proofs.orders.take_orders.Given as goal

abbrev pub invariant-loop : goal.invariant-loop
invariant-loop g l = record {
  round : IsOrderRound (record { seen = g.K.Clerk.seen l.fn.clerk; mine = g.K.Clerk.mine l.fn.clerk; left = g.O.Orders.left l.fn.orders; coming = g.C.Clock.readings l.fn.clock }) (record { seen = g.K.Clerk.seen l.clerk; mine = g.K.Clerk.mine l.clerk; left = g.O.Orders.left l.orders; coming = g.C.Clock.readings l.clock }) l.round;
  on : l.round.stop ≡ None;
  stays : Stays g.K.Clerk l.fn.clerk l.clerk;
  clock : g.C.Clock.loan l.clock ≡ g.C.Clock.loan l.fn.clock;
  read : g.O.Orders.faults l.orders ≡ g.O.Orders.faults l.fn.orders;
  disk : g.K.Clerk.faults l.clerk ≡ g.K.Clerk.faults l.fn.clerk;
}
