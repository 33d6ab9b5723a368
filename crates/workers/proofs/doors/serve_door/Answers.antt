use Rattle.std.proofs.Common.{◌≡◌, ◌∙◌, ◌++◌, ◌+◌, length, true, false, [], refl, sym, ap, subst, le_refl, length-append, arith}
use Rattle.sessions.specs.Links.{parts_of}
use Rattle.workers.specs.Doors.{IsDoorServed}
use Rattle.workers.specs.declared.tally.Tally.{Tally}
use Rattle.workers.proofs.DoorLemmas.{door_none, door_both, stays_itself, neither}
use Rattle.workers.proofs.doors.serve_door.Goals as goal

pub loop-init : goal.loop-init
loop-init g c =
    let n = c.nothing-tally.ensures in
    ([], door_none g.S.Joined.Link g.S.Door g.K.Clerk g.C.Clock g.E.Entropy (parts_of c.args.front.now) c.args.door.now c.args.door.now _ refl refl (stays_itself _) (le_refl _) (ap (λ (t : Tally). t.failures) n), refl, ap (λ (t : Tally). t.door) n)

pub returns-then-tally-clause-served : goal.returns-then-tally-clause-served
returns-then-tally-clause-served g c =
    let x = c.loop.invariant in
    let y = c.serve_next.ensures.served in
    let f = c.followed_by-tally.ensures in
    let long : length (x.0 ++ y.0) ≡ length x.0 + length y.0 = length-append x.0 y.0 in
    let all = door_both g.S.Joined.Link g.S.Door g.K.Clerk g.C.Clock g.E.Entropy (parts_of c.args.front.now) (parts_of c.loop.front) (parts_of c.serve_next.new.front) c.args.door.now c.loop.door c.serve_next.new.door x.0 y.0 c.loop.tally c.serve_next.result x.1 y.1 in (
      x.0 ++ y.0,
      subst (λ (t : Tally). IsDoorServed g.S.Joined.Link g.S.Door g.K.Clerk g.C.Clock g.E.Entropy (parts_of c.args.front.now) (parts_of c.serve_next.new.front) c.args.door.now c.serve_next.new.door (x.0 ++ y.0) t) (sym f) all,
      omega (arith, long, x.2, y.2, c.loop-test.true),
      λ e. absurd (let h : true ≡ false = sym c.if-tally.true ∙ e in cc),
    )

pub loop-preserved : goal.loop-preserved
loop-preserved g c =
    let x = c.loop.invariant in
    let y = c.serve_next.ensures.served in
    let f = c.followed_by-tally.ensures in
    let long : length (x.0 ++ y.0) ≡ length x.0 + length y.0 = length-append x.0 y.0 in
    let all = door_both g.S.Joined.Link g.S.Door g.K.Clerk g.C.Clock g.E.Entropy (parts_of c.args.front.now) (parts_of c.loop.front) (parts_of c.serve_next.new.front) c.args.door.now c.loop.door c.serve_next.new.door x.0 y.0 c.loop.tally c.serve_next.result x.1 y.1 in
    let good = neither c.loop.tally.door c.serve_next.result.door (sym (ap (λ (t : Tally). t.door) f) ∙ c.if-tally.false) in
    let one = y.3 good.1 in (
      x.0 ++ y.0,
      subst (λ (t : Tally). IsDoorServed g.S.Joined.Link g.S.Door g.K.Clerk g.C.Clock g.E.Entropy (parts_of c.args.front.now) (parts_of c.serve_next.new.front) c.args.door.now c.serve_next.new.door (x.0 ++ y.0) t) (sym f) all,
      omega (arith, long, x.2, one),
      c.if-tally.false,
    )
