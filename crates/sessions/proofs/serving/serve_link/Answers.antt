-- The front's answers are a session.
use Rattle.sessions.specs.Links.{parts_of}
use Rattle.sessions.proofs.Runs.{served}
use Rattle.sessions.proofs.serving.serve_link.Goals as goal

pub returns-clause-served : goal.returns-clause-served
returns-clause-served g c = served g.K.Clerk g.C.Clock g.E.Entropy c.what_is_settled_stays.ensures.receipts c.what_is_left_decides.ensures.time
    _ parts_of (λ a b end reply n is. is) _ _ _ _ _ _ _ _ c.serve_http.ensures.served
