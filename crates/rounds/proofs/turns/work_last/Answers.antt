use Rattle.std.proofs.Common.{◌≡◌, ◌∙◌, None, sym, subst}
use Rattle.rounds.specs.declared.round.Round.{Round}
use Rattle.rounds.specs.Rounds.{Sight, IsLastRound}
use Rattle.rounds.proofs.StepLemmas.{on_still}
use Rattle.rounds.proofs.TurnLemmas.{last_round, stopped_round}
use Rattle.rounds.proofs.turns.work_last.Goals as goal

pub returns-clause-round : goal.returns-clause-round
returns-clause-round g c =
    let left = g.O.Orders.left c.take_orders-ordered.new.orders in
    let old : Sight = record { seen = g.K.Clerk.seen c.args.clerk.now; mine = g.K.Clerk.mine c.args.clerk.now; left = g.O.Orders.left c.args.orders.now; coming = g.C.Clock.readings c.args.clock.now } in
    let new : Sight = record { seen = g.K.Clerk.seen c.lapse_all-lapsed.new.clerk; mine = g.K.Clerk.mine c.lapse_all-lapsed.new.clerk; left = left; coming = g.C.Clock.readings c.now-now.new.self } in
    let on : c.take_orders-ordered.result.stop ≡ None = on_still c.take_orders-ordered.result.stop (sym c.is_some.ensures ∙ c.if-is_some.false) in
    subst (λ (r : Round). IsLastRound old new r) (sym c.followed_by.ensures)
    (last_round old (g.K.Clerk.seen c.take_orders-ordered.new.clerk) (g.K.Clerk.seen c.lapse_all-lapsed.new.clerk) (g.K.Clerk.mine c.take_orders-ordered.new.clerk) (g.K.Clerk.mine c.lapse_all-lapsed.new.clerk) left (g.C.Clock.readings c.take_orders-ordered.new.clock) (g.C.Clock.readings c.now-now.new.self) c.now-now.result
    c.take_orders-ordered.result c.lapse_all-lapsed.result on c.lapse_all-lapsed.ensures.stays.grown c.take_orders-ordered.ensures.round c.now-now.ensures.reads c.lapse_all-lapsed.ensures.round)

pub returns-then-is_some-clause-round : goal.returns-then-is_some-clause-round
returns-then-is_some-clause-round g c =
    let old : Sight = record { seen = g.K.Clerk.seen c.args.clerk.now; mine = g.K.Clerk.mine c.args.clerk.now; left = g.O.Orders.left c.args.orders.now; coming = g.C.Clock.readings c.args.clock.now } in
    let new : Sight = record { seen = g.K.Clerk.seen c.take_orders-ordered.new.clerk; mine = g.K.Clerk.mine c.take_orders-ordered.new.clerk; left = g.O.Orders.left c.take_orders-ordered.new.orders; coming = g.C.Clock.readings c.take_orders-ordered.new.clock } in
    stopped_round old new c.take_orders-ordered.result (sym c.is_some.ensures ∙ c.if-is_some.true) c.take_orders-ordered.ensures.round
