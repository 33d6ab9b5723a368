use Rattle.std.proofs.Common.{◌∙◌, sym, subst}
use Rattle.rounds.specs.declared.round.Round.{Round}
use Rattle.rounds.specs.Rounds.{Sight, IsRound}
use Rattle.rounds.proofs.RoundLemmas.{round_follows}
use Rattle.rounds.proofs.StepLemmas.{on_still}
use Rattle.workers.proofs.upkeep.go_round.Goals as goal

pub returns-then-is_some-clause-round : goal.returns-then-is_some-clause-round
returns-then-is_some-clause-round g c = (c.lapse_due-lapses.ensures.round (g.O.Orders.left c.args.orders.now)).whole

pub returns-clause-round : goal.returns-clause-round
returns-clause-round g c =
    let l = c.lapse_due-lapses in
    let t = c.take_orders-taken in
    let old : Sight = record { seen = g.K.Clerk.seen c.args.clerk.now; mine = g.K.Clerk.mine c.args.clerk.now; left = g.O.Orders.left c.args.orders.now; coming = g.C.Clock.readings c.args.clock.now } in
    let mid : Sight = record { seen = g.K.Clerk.seen l.new.clerk; mine = g.K.Clerk.mine l.new.clerk; left = g.O.Orders.left c.args.orders.now; coming = g.C.Clock.readings l.new.clock } in
    let new : Sight = record { seen = g.K.Clerk.seen t.new.clerk; mine = g.K.Clerk.mine t.new.clerk; left = g.O.Orders.left t.new.orders; coming = g.C.Clock.readings t.new.clock } in
    subst (λ (r : Round). IsRound old new r) (sym c.followed_by.ensures)
    (round_follows old mid new l.result t.result (on_still l.result.stop (sym c.is_some.ensures ∙ c.if-is_some.false)) t.ensures.stays.grown (l.ensures.round (g.O.Orders.left c.args.orders.now)).whole t.ensures.round.whole)
