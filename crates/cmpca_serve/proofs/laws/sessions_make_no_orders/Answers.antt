use Rattle.cmpca_serve.proofs.Sessions.{session_no_order}
use Rattle.cmpca_serve.proofs.laws.sessions_make_no_orders.Goals as goal

pub returns : goal.returns
returns c = λ k h0 h left before after faults now readings draws end events lost s. session_no_order c.what_is_made_is_allowed.ensures.stamped k h0 h left before after faults now readings draws end events lost s
