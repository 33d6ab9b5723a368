use Rattle.std.proofs.Common.{◌≡◌, ◌∙◌, refl, sym, ap, rules}
use Rattle.std.specs.Prelude.{nat_lt}
use Rattle.front.specs.Clerks.{Held}
use Rattle.front.specs.Fronts.{replier_by}
use Rattle.sessions.specs.Links.{parts_of}
use Rattle.workers.proofs.StationLemmas.{attended_one, same_some}
use Rattle.workers.proofs.workers.Workers.serve_at.Goals as goal

pub returns : goal.returns
returns g c =
    let s = c.serve_door-tally.ensures.served in
    let d = s.1 in
    let f = c.new-front.result in
    let n = c.serve_door-tally.new.front in
    let m = c.shut-seat.result.0.me in
    let same : c.shut-seat.result.0 ≡ n.clerk.seat = search (rules, c.into_parts-clerk.ensures.clerk, c.shut-seat.ensures.seat) in
    let first : f.clerk.seat ≡ c.args.seat = search (rules, c.new-front.ensures.clerk, c.new-clerk.ensures.seat) in
    let marks0 : f.clerk.marks ≡ 0 = search (rules, c.new-front.ensures.clerk, c.new-clerk.ensures.marks) in
    let marks1 : n.clerk.marks ≡ c.shut-seat.result.1 = search (rules, c.into_parts-clerk.ensures.clerk, c.shut-seat.ensures.marks) in
    let clock_loan : n.clock.ghost_name ≡ f.clock.ghost_name = d.clock in
    let entropy_loan : n.entropy.ghost_name ≡ f.entropy.ghost_name = d.entropy in
    let clock0 : f.clock.now ≡ c.args.clock.now = search (rules, c.new-front.ensures.clock) in
    let clock1 : n.clock.now ≡ c.clock-1.given.0 = search (rules, clock_loan, c.new-front.ensures.clock, c.into_parts-clerk.ensures.clock) in
    let entropy0 : f.entropy.now ≡ c.args.entropy.now = search (rules, c.new-front.ensures.entropy) in
    let entropy1 : n.entropy.now ≡ c.entropy-1.given.0 = search (rules, entropy_loan, c.new-front.ensures.entropy, c.into_parts-clerk.ensures.entropy) in
    let table : n.clerk.seat.table_id ≡ f.clerk.seat.table_id = same_some _ _ (ap (λ (h : Held). h.table) d.held) in
    let share : n.clerk.seat.me.0.share ≡ f.clerk.seat.me.0.share = ap (λ (h : Held). h.share) d.held in
    attended_one _ _ _ _ _ _ _ _ _ c.args.self.now.count c.args.seat.me.0 m.0 (parts_of f) (parts_of n) c.args.door.now c.serve_door-tally.new.door
    c.args.clock.now c.clock-1.given.0 c.args.entropy.now c.entropy-1.given.0 _ _ s.0 c.serve_door-tally.result _
    d s.2 s.3 c.serve_door-tally.ensures.door
    (ap replier_by c.new-front.ensures.keys)
    (ap (λ (x : _). x.me.0.seen) first)
    (sym (ap (λ (x : _). x.me.0.seen) same))
    (ap (λ (x : _). x.me.0.mine) first ∙ c.requires.unused)
    (sym (ap (λ (x : _). x.me.0.mine) same))
    marks0
    marks1
    (ap g.C.Clock.readings clock0)
    (ap g.C.Clock.readings clock1)
    (ap g.E.Entropy.draws entropy0)
    (ap g.E.Entropy.draws entropy1)
    (ap g.E.Entropy.faults entropy0)
    (ap g.E.Entropy.faults entropy1)
    (c.into_badge.ensures.0 ∙ ap (λ (x : _). x.table_id) same ∙ table ∙ ap (λ (x : _). x.table_id) first ∙ c.requires.own)
    c.into_badge.ensures.2
    c.shut-seat.ensures.rests.1
    c.shut-seat.ensures.rests.2
    (ap (λ (x : _). x.me.0.share) same ∙ share ∙ ap (λ (x : _). x.me.0.share) first)
    refl refl (ap (λ (k : _). nat_lt k c.serve_door-tally.result.failures) c.count.ensures)
