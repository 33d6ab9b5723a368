use Rattle.std.proofs.Common.{◌≡◌, ◌∙◌, None, sym, subst}
use Rattle.rounds.specs.declared.round.Round.{Round}
use Rattle.rounds.specs.Rounds.{Sight, IsMixedRound}
use Rattle.rounds.proofs.TurnLemmas.{mixed_round, stopped_lapses}
use Rattle.rounds.proofs.StepLemmas.{on_still}
use Rattle.rounds.proofs.turns.work_once.Goals as goal

pub returns-then-is_some-clause-round : goal.returns-then-is_some-clause-round
returns-then-is_some-clause-round g c =
    let left = g.O.Orders.left c.args.orders.now in
    let old : Sight = record { seen = g.K.Clerk.seen c.args.clerk.now; mine = g.K.Clerk.mine c.args.clerk.now; left = left; coming = g.C.Clock.readings c.args.clock.now } in
    let mid : Sight = record { seen = g.K.Clerk.seen c.lapse_due-lapsed.new.clerk; mine = g.K.Clerk.mine c.lapse_due-lapsed.new.clerk; left = left; coming = g.C.Clock.readings c.lapse_due-lapsed.new.clock } in
    stopped_lapses old mid c.lapse_due-lapsed.result (c.lapse_due-lapsed.ensures.round left)

pub returns-clause-round : goal.returns-clause-round
returns-clause-round g c =
    let left = g.O.Orders.left c.args.orders.now in
    let old : Sight = record { seen = g.K.Clerk.seen c.args.clerk.now; mine = g.K.Clerk.mine c.args.clerk.now; left = left; coming = g.C.Clock.readings c.args.clock.now } in
    let mid : Sight = record { seen = g.K.Clerk.seen c.lapse_due-lapsed.new.clerk; mine = g.K.Clerk.mine c.lapse_due-lapsed.new.clerk; left = left; coming = g.C.Clock.readings c.lapse_due-lapsed.new.clock } in
    let new : Sight = record { seen = g.K.Clerk.seen c.take_orders-ordered.new.clerk; mine = g.K.Clerk.mine c.take_orders-ordered.new.clerk; left = g.O.Orders.left c.take_orders-ordered.new.orders; coming = g.C.Clock.readings c.take_orders-ordered.new.clock } in
    let on : c.lapse_due-lapsed.result.stop ≡ None = on_still c.lapse_due-lapsed.result.stop (sym c.is_some.ensures ∙ c.if-is_some.false) in
    subst (λ (r : Round). IsMixedRound old new r) (sym c.followed_by.ensures)
    (mixed_round old mid new c.lapse_due-lapsed.result c.take_orders-ordered.result on c.take_orders-ordered.ensures.stays.grown (c.lapse_due-lapsed.ensures.round left) c.take_orders-ordered.ensures.round)
