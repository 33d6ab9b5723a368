use Rattle.std.proofs.Common.{◌≡◌, ◌∙◌, None, refl, sym, ap, subst}
use Rattle.rounds.specs.declared.round.Round.{Round}
use Rattle.rounds.specs.declared.round.Stop.TheVariants.{ReadFault, DiskFault}
use Rattle.rounds.specs.Rounds.{Sight, IsRound, has_room}
use Rattle.rounds.proofs.RoundLemmas.{round_follows, no_round, went_on}
use Rattle.rounds.proofs.StepLemmas.{on_still, stays_itself, stays_both}
use Rattle.workers.proofs.UpkeepLemmas.{not_some}
use Rattle.workers.proofs.upkeep.keep_up.Goals as goal

pub loop-init : goal.loop-init
loop-init g c =
    let at : Sight = record { seen = g.K.Clerk.seen c.args.clerk.now; mine = g.K.Clerk.mine c.args.clerk.now; left = g.O.Orders.left c.args.orders.now; coming = g.C.Clock.readings c.args.clock.now } in
    (subst (λ (r : Round). IsRound at at r) (sym c.none-round.ensures) (no_round at), stays_itself g.K.Clerk c.args.clerk.now, refl, ap (λ (r : Round). r.stop) c.none-round.ensures, refl, refl)

pub returns-then-is_some-clause-round : goal.returns-then-is_some-clause-round
returns-then-is_some-clause-round g c =
    let n = c.go_round.new in
    let old : Sight = record { seen = g.K.Clerk.seen c.args.clerk.now; mine = g.K.Clerk.mine c.args.clerk.now; left = g.O.Orders.left c.args.orders.now; coming = g.C.Clock.readings c.args.clock.now } in
    let mid : Sight = record { seen = g.K.Clerk.seen c.loop.clerk; mine = g.K.Clerk.mine c.loop.clerk; left = g.O.Orders.left c.loop.orders; coming = g.C.Clock.readings c.loop.clock } in
    let new : Sight = record { seen = g.K.Clerk.seen n.clerk; mine = g.K.Clerk.mine n.clerk; left = g.O.Orders.left n.orders; coming = g.C.Clock.readings n.clock } in
    subst (λ (r : Round). IsRound old new r) (sym c.followed_by-round.ensures)
    (round_follows old mid new c.loop.round c.go_round.result c.loop.invariant.3 c.go_round.ensures.stays.grown c.loop.invariant.0 c.go_round.ensures.round)

pub loop-preserved : goal.loop-preserved
loop-preserved g c =
    let n = c.go_round.new in
    let e = c.go_round.ensures in
    let i = c.loop.invariant in
    let old : Sight = record { seen = g.K.Clerk.seen c.args.clerk.now; mine = g.K.Clerk.mine c.args.clerk.now; left = g.O.Orders.left c.args.orders.now; coming = g.C.Clock.readings c.args.clock.now } in
    let mid : Sight = record { seen = g.K.Clerk.seen c.loop.clerk; mine = g.K.Clerk.mine c.loop.clerk; left = g.O.Orders.left c.loop.orders; coming = g.C.Clock.readings c.loop.clock } in
    let new : Sight = record { seen = g.K.Clerk.seen n.clerk; mine = g.K.Clerk.mine n.clerk; left = g.O.Orders.left n.orders; coming = g.C.Clock.readings n.clock } in
    let on : c.followed_by-round.result.stop ≡ None = on_still c.followed_by-round.result.stop (sym c.is_some.ensures ∙ c.if-is_some.false) in
    let none : c.go_round.result.stop ≡ None = (went_on c.go_round.result.stop (has_room c.loop.round c.go_round.result) (sym (ap (λ (r : Round). r.stop) c.followed_by-round.ensures) ∙ on)).0 in (
      subst (λ (r : Round). IsRound old new r) (sym c.followed_by-round.ensures)
          (round_follows old mid new c.loop.round c.go_round.result i.3 e.stays.grown i.0 e.round),
      stays_both g.K.Clerk c.args.clerk.now c.loop.clerk n.clerk i.1 e.stays,
      e.clock ∙ i.2,
      on,
      e.read (not_some c.go_round.result.stop ReadFault none) ∙ i.4,
      e.disk (not_some c.go_round.result.stop DiskFault none) ∙ i.5,
    )
