use Rattle.std.proofs.Common.{subst, sym}
use Rattle.rounds.specs.declared.round.Round.{Round}
use Rattle.rounds.specs.Rounds.{Sight, IsOrderRound}
use Rattle.rounds.proofs.StepLemmas.{ordered_round}
use Rattle.rounds.proofs.orders.obey.Goals as goal

pub returns-clause-round : goal.returns-clause-round
returns-clause-round g c = λ before after takes.
    let old : Sight = record { seen = g.K.Clerk.seen c.args.clerk.now; mine = g.K.Clerk.mine c.args.clerk.now; left = before; coming = g.C.Clock.readings c.args.clock.now } in
    let new : Sight = record { seen = g.K.Clerk.seen c.order-ordered.new.self; mine = g.K.Clerk.mine c.order-ordered.new.self; left = after; coming = g.C.Clock.readings c.now-now.new.self } in
    subst (λ (r : Round). IsOrderRound old new r) (sym c.round_of.ensures.round)
    (ordered_round old new c.args.order.now c.now-now.result c.order-ordered.result takes c.now-now.ensures.reads c.order-ordered.ensures.ends c.order-ordered.ensures.mine)
