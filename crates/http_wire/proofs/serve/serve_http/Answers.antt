-- The session so far, and its next step.
use Rattle.std.proofs.Common.{[], le_trans, refl}
use Rattle.std.proofs.KnownBytes.{Keeps-trans}
use Rattle.std.specs.Io.KnownBytes.{prepend_known}
use Rattle.http_wire.specs.Steps.{moment}
use Rattle.http_wire.proofs.ServeLemmas.{below_limit, goes_on, open_next, served}
use Rattle.http_wire.proofs.serve.serve_http.Goals as goal

pub returns-in-Some-clause-served : goal.returns-in-Some-clause-served
returns-in-Some-clause-served g c =
    let first = moment c.args.to.now (g.L.Link.left c.args.link.now) (g.L.Link.written c.args.link.now) (g.L.Link.faults c.args.link.now) [] in
    let now = moment c.loop-cause.to (prepend_known c.loop-cause.session.buffer (g.L.Link.left c.loop-cause.link)) (g.L.Link.written c.loop-cause.link) (g.L.Link.faults c.loop-cause.link)
    c.loop-cause.session.notes in
    let new = moment c.step.new.to (prepend_known c.step.new.session.buffer (g.L.Link.left c.step.new.link)) (g.L.Link.written c.step.new.link) (g.L.Link.faults c.step.new.link)
    c.step.new.session.notes in
    served g.A.Answerer.answers c.loop-cause.number first now new c.in-Some.cause _ c.loop-cause.invariant.opens c.in-Some.ensures.step refl refl

pub loop-cause-preserved : goal.loop-cause-preserved
loop-cause-preserved g c =
    let first = moment c.args.to.now (g.L.Link.left c.args.link.now) (g.L.Link.written c.args.link.now) (g.L.Link.faults c.args.link.now) [] in
    let now = moment c.loop-cause.to (prepend_known c.loop-cause.session.buffer (g.L.Link.left c.loop-cause.link)) (g.L.Link.written c.loop-cause.link) (g.L.Link.faults c.loop-cause.link)
    c.loop-cause.session.notes in
    let new = moment c.step.new.to (prepend_known c.step.new.session.buffer (g.L.Link.left c.step.new.link)) (g.L.Link.written c.step.new.link) (g.L.Link.faults c.step.new.link)
    c.step.new.session.notes in
    let does = goes_on g.A.Answerer.answers c.loop-cause.number now new c.step.result c.step.ensures.step (λ cause is. c.in_default.not-Some cause is) in
    record {
      within = below_limit g.A.Answerer.answers c.loop-cause.number now new c.loop-cause.invariant.within does;
      opens = open_next g.A.Answerer.answers c.loop-cause.number first now new c.loop-cause.invariant.opens does;
      input = Keeps-trans _ _ _ c.loop-cause.invariant.input c.step.ensures.input;
      answerer = le_trans c.loop-cause.invariant.answerer c.step.ensures.answerer;
    }
