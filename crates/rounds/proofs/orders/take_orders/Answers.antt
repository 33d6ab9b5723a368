use Rattle.std.proofs.Common.{◌≡◌, ◌∙◌, true, Option, None, Ok, refl, ap, sym, subst}
use Rattle.cmp_ports.specs.declared.order.Order.{Order}
use Rattle.cmp_ports.specs.declared.faults.Failed.{Failed}
use Rattle.cmp_ports.specs.Coming.{Takes}
use Rattle.rounds.specs.declared.round.Round.{Round}
use Rattle.rounds.specs.Rounds.{Sight, IsOrderRound, none_yet, has_room}
use Rattle.rounds.proofs.RoundLemmas.{went_on, takes_none, begins_itself}
use Rattle.rounds.proofs.StepLemmas.{on_still, orders_follow, nothing_ordered, takes_no_more, takes_one, takes_end, takes_failed, stays_itself, stays_both}
use Rattle.rounds.proofs.orders.take_orders.Goals as goal

pub loop-init : goal.loop-init
loop-init g c =
    let left = g.O.Orders.left c.args.orders.now in
    let at : Sight = record { seen = g.K.Clerk.seen c.args.clerk.now; mine = g.K.Clerk.mine c.args.clerk.now; left = left; coming = g.C.Clock.readings c.args.clock.now } in
    record {
      round = subst (λ (r : Round). IsOrderRound at at r) (sym c.none-round.ensures) (nothing_ordered at.seen at.mine left left at.coming none_yet refl refl (takes_none left));
      on = ap (λ (r : Round). r.stop) c.none-round.ensures;
      stays = stays_itself g.K.Clerk c.args.clerk.now;
      clock = refl;
      read = refl;
      disk = refl;
    }

pub returns-in-Ok-None-clause-round : goal.returns-in-Ok-None-clause-round
returns-in-Ok-None-clause-round g c =
    let old : Sight = record { seen = g.K.Clerk.seen c.args.clerk.now; mine = g.K.Clerk.mine c.args.clerk.now; left = g.O.Orders.left c.args.orders.now; coming = g.C.Clock.readings c.args.clock.now } in
    let left = g.O.Orders.left c.loop.orders in
    let rest = g.O.Orders.left c.next.new.self in
    takes_no_more old (g.K.Clerk.seen c.loop.clerk) (g.K.Clerk.mine c.loop.clerk) left rest (g.C.Clock.readings c.loop.clock) c.loop.round c.loop.invariant.round
    (takes_end Failed left rest (subst (λ (x : Option Order). Takes left rest (Ok x)) c.in-Ok-None.field-0-is c.in-Ok-None.ensures.takes))

pub returns-in-Err-clause-round : goal.returns-in-Err-clause-round
returns-in-Err-clause-round g c =
    let old : Sight = record { seen = g.K.Clerk.seen c.args.clerk.now; mine = g.K.Clerk.mine c.args.clerk.now; left = g.O.Orders.left c.args.orders.now; coming = g.C.Clock.readings c.args.clock.now } in
    let left = g.O.Orders.left c.loop.orders in
    let rest = g.O.Orders.left c.next.new.self in
    let mid : Sight = record { seen = g.K.Clerk.seen c.loop.clerk; mine = g.K.Clerk.mine c.loop.clerk; left = left; coming = g.C.Clock.readings c.loop.clock } in
    let new : Sight = record { seen = mid.seen; mine = mid.mine; left = rest; coming = mid.coming } in
    subst (λ (r : Round). IsOrderRound old new r) (sym c.followed_by.ensures)
    (orders_follow old mid new c.loop.round c.stopped.result c.loop.invariant.on (begins_itself mid.seen) c.loop.invariant.round
    (nothing_ordered mid.seen mid.mine left rest mid.coming c.stopped.result (ap (λ (r : Round). r.done) c.stopped.ensures) (ap (λ (r : Round). r.refused) c.stopped.ensures) (takes_failed left rest c.in-Err.field-0 c.in-Err.ensures.takes)))

pub returns-then-is_some-clause-round : goal.returns-then-is_some-clause-round
returns-then-is_some-clause-round g c =
    let old : Sight = record { seen = g.K.Clerk.seen c.args.clerk.now; mine = g.K.Clerk.mine c.args.clerk.now; left = g.O.Orders.left c.args.orders.now; coming = g.C.Clock.readings c.args.clock.now } in
    let left = g.O.Orders.left c.loop.orders in
    let rest = g.O.Orders.left c.next.new.self in
    let mid : Sight = record { seen = g.K.Clerk.seen c.loop.clerk; mine = g.K.Clerk.mine c.loop.clerk; left = left; coming = g.C.Clock.readings c.loop.clock } in
    let new : Sight = record { seen = g.K.Clerk.seen c.obey.new.clerk; mine = g.K.Clerk.mine c.obey.new.clerk; left = rest; coming = g.C.Clock.readings c.obey.new.clock } in
    subst (λ (r : Round). IsOrderRound old new r) (sym c.followed_by-round.ensures)
    (orders_follow old mid new c.loop.round c.obey.result c.loop.invariant.on c.obey.ensures.stays.grown c.loop.invariant.round
    (c.obey.ensures.round left rest (takes_one Failed left rest c.in-Ok-Some.order (subst (λ (x : Option Order). Takes left rest (Ok x)) c.in-Ok-Some.field-0-is c.in-Ok-Some.ensures.takes))))

pub loop-preserved : goal.loop-preserved
loop-preserved g c =
    let old : Sight = record { seen = g.K.Clerk.seen c.args.clerk.now; mine = g.K.Clerk.mine c.args.clerk.now; left = g.O.Orders.left c.args.orders.now; coming = g.C.Clock.readings c.args.clock.now } in
    let left = g.O.Orders.left c.loop.orders in
    let rest = g.O.Orders.left c.next.new.self in
    let mid : Sight = record { seen = g.K.Clerk.seen c.loop.clerk; mine = g.K.Clerk.mine c.loop.clerk; left = left; coming = g.C.Clock.readings c.loop.clock } in
    let new : Sight = record { seen = g.K.Clerk.seen c.obey.new.clerk; mine = g.K.Clerk.mine c.obey.new.clerk; left = rest; coming = g.C.Clock.readings c.obey.new.clock } in
    let on : c.followed_by-round.result.stop ≡ None = on_still c.followed_by-round.result.stop (sym c.is_some.ensures ∙ c.if-is_some.false) in
    let went : (c.obey.result.stop ≡ None) × (has_room c.loop.round c.obey.result ≡ true) = went_on c.obey.result.stop (has_room c.loop.round c.obey.result) (ap (λ (r : Round). r.stop) (sym c.followed_by-round.ensures) ∙ on) in
    record {
      round = subst (λ (r : Round). IsOrderRound old new r) (sym c.followed_by-round.ensures)
          (orders_follow old mid new c.loop.round c.obey.result c.loop.invariant.on c.obey.ensures.stays.grown c.loop.invariant.round
          (c.obey.ensures.round left rest (takes_one Failed left rest c.in-Ok-Some.order (subst (λ (x : Option Order). Takes left rest (Ok x)) c.in-Ok-Some.field-0-is c.in-Ok-Some.ensures.takes))));
      on = on;
      stays = stays_both g.K.Clerk c.args.clerk.now c.loop.clerk c.obey.new.clerk c.loop.invariant.stays c.obey.ensures.stays;
      clock = c.obey.ensures.clock ∙ c.loop.invariant.clock;
      read = c.in-Ok-Some.ensures.cause.kept ∙ c.loop.invariant.read;
      disk = c.obey.ensures.disk (λ is. cc (is, went.0)) ∙ c.loop.invariant.disk;
    }

pub returns-clause-round : goal.returns-clause-round
returns-clause-round g c =
    let old : Sight = record { seen = g.K.Clerk.seen c.args.clerk.now; mine = g.K.Clerk.mine c.args.clerk.now; left = g.O.Orders.left c.args.orders.now; coming = g.C.Clock.readings c.args.clock.now } in
    let left = g.O.Orders.left c.loop.orders in
    let mid : Sight = record { seen = g.K.Clerk.seen c.loop.clerk; mine = g.K.Clerk.mine c.loop.clerk; left = left; coming = g.C.Clock.readings c.loop.clock } in
    subst (λ (r : Round). IsOrderRound old mid r) (sym c.followed_by-2.ensures)
    (orders_follow old mid mid c.loop.round c.stopped-2.result c.loop.invariant.on (begins_itself mid.seen) c.loop.invariant.round
    (nothing_ordered mid.seen mid.mine left left mid.coming c.stopped-2.result (ap (λ (r : Round). r.done) c.stopped-2.ensures) (ap (λ (r : Round). r.refused) c.stopped-2.ensures) (takes_none left)))
