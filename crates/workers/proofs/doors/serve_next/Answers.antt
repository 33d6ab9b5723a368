use Rattle.std.proofs.Common.{◌≡◌, ◌∙◌, true, false, [], ◌∷◌, refl, sym, arith, rules}
use Rattle.sessions.specs.Links.{parts_of}
use Rattle.workers.proofs.DoorLemmas.{door_none, door_one, unforgotten}
use Rattle.workers.proofs.doors.serve_next.Goals as goal

pub returns-in_default-clause-served : goal.returns-in_default-clause-served
returns-in_default-clause-served g c =
    let a = c.in_default.ensures in
    ([], door_none g.S.Joined.Link g.S.Door g.K.Clerk g.C.Clock g.E.Entropy (parts_of c.args.front.now) c.args.door.now c.accept.new.self _ a.accepted a.ended a.finished a.cause.later refl, omega arith, λ e. absurd (let f : true ≡ false = e in cc))

pub returns-clause-served : goal.returns-clause-served
returns-clause-served g c =
    let a = c.in-Ok.ensures in
    let f = c.finish.ensures in
    let s = c.serve_link-end in (
      record { from = c.in-Ok.link; link = s.new.link; end = s.result; events = s.ensures.served.events; lost = s.ensures.served.lost } ∷ [],
      door_one g.S.Joined.Link g.S.Door g.K.Clerk g.C.Clock g.E.Entropy (parts_of c.args.front.now) (parts_of s.new.front) c.args.door.now c.accept.new.self c.finish.new.self _ _
          a.accepted a.ended a.finished f.accepted f.ended f.finished (omega (arith, a.cause.later, f.faults)) a.fresh s.ensures.input s.ensures.served refl refl
          (search rules) (search rules) (λ e. unforgotten s.result.cause (sym c.is_want_of_memory.ensures ∙ e)),
      omega arith,
      λ e. refl,
    )
