-- The session so far, over octets none of which is lost.
use Rattle.std.proofs.Common.{◌-◌, ◌≤◌, []}
use Rattle.std.specs.Io.KnownBytes.{Keeps, prepend_known}
use Rattle.http_heads.specs.Comings.{input}
use Rattle.http_wire.specs.Steps.{moment}
use Rattle.http_wire.proofs.Opens.{IsOpen}
use Rattle.http_wire.proofs.serve.serve_http.Given as goal

abbrev pub invariant-loop-cause : goal.invariant-loop-cause
invariant-loop-cause g l = record {
  within : l.number ≤ 1000;
  opens : IsOpen g.A.Answerer.answers l.number (moment l.fn.to (g.L.Link.left l.fn.link) (g.L.Link.written l.fn.link) (g.L.Link.faults l.fn.link) [])
      (moment l.to (prepend_known l.session.buffer (g.L.Link.left l.link)) (g.L.Link.written l.link) (g.L.Link.faults l.link) l.session.notes);
  input : Keeps (input (g.L.Link.gave l.fn.link) (g.L.Link.left l.fn.link)) (input (g.L.Link.gave l.link) (g.L.Link.left l.link));
  answerer : g.A.Answerer.faults l.fn.to ≤ g.A.Answerer.faults l.to;
}

abbrev pub decreases-loop-cause : goal.decreases-loop-cause
decreases-loop-cause g l = 1000 - l.number
