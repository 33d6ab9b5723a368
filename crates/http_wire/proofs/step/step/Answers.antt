-- The request was answered, or not, or what comes was turned away.
use Rattle.http_wire.proofs.StepLemmas.{step_sent, step_turned, step_unsent_at}
use Rattle.http_wire.proofs.step.step.Goals as goal

pub returns-in-Ok-clause-step : goal.returns-in-Ok-clause-step
returns-in-Ok-clause-step g c =
    let has = rw c.as_slice.ensures at c.in-Ok.ensures.exchange in
    step_sent g.A.Answerer.answers c.args.number c.args.to.now c.exchange.new.to _ c.next_request.new.buffer (g.L.Link.left c.next_request.new.link) (g.L.Link.left c.exchange.new.link)
    _ (g.L.Link.written c.next_request.new.link) _ _ (g.L.Link.faults c.next_request.new.link) _ _ _ c.in-Request.body c.in-Request.asks c.is_some-last.result c.ending_after-ending.result
    c.in-Request.ensures.next c.in-Ok.ensures.left c.in-Request.ensures.written (c.in-Request.ensures.kept (λ e. cc e)) c.ending_after-ending.ensures c.is_some-last.ensures has

pub returns-in-Request-clause-step : goal.returns-in-Request-clause-step
returns-in-Request-clause-step g c =
    step_unsent_at g.A.Answerer.answers c.args.number c.args.to.now c.exchange.new.to _ c.next_request.new.buffer (g.L.Link.left c.next_request.new.link) (g.L.Link.left c.exchange.new.link)
    _ (g.L.Link.written c.next_request.new.link) _ _ (g.L.Link.faults c.next_request.new.link) _ _ _ c.in-Request.body c.in-Request.asks c.is_some-last.result c.ending_after-ending.result
    c.in-Err.cause c.as_slice.result.now c.in-Request.ensures.next c.in-Err.ensures.left c.in-Request.ensures.written (c.in-Request.ensures.kept (λ e. cc e)) c.ending_after-ending.ensures c.is_some-last.ensures c.as_slice.ensures c.in-Err.ensures.exchange

pub returns-in-Reject-clause-step : goal.returns-in-Reject-clause-step
returns-in-Reject-clause-step g c =
    step_turned g.A.Answerer.answers c.args.number c.args.to.now _ _ _ (g.L.Link.written c.next_request.new.link) _ _ (g.L.Link.faults c.next_request.new.link) _ c.args.session.now.notes
    c.in-Reject.status c.turn_away.result c.in-Reject.ensures.next c.in-Reject.ensures.written (c.in-Reject.ensures.kept (λ e. cc e)) c.turn_away.ensures.turned
