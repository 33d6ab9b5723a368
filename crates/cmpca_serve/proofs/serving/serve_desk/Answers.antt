use Rattle.std.proofs.Common.{rules}
use Rattle.cmpca_serve.proofs.ServingLemmas.{closed_reply}
use Rattle.cmpca_serve.proofs.serving.serve_desk.Goals as goal

pub returns-in-Ok-ended-clause-serving : goal.returns-in-Ok-ended-clause-serving
returns-in-Ok-ended-clause-serving g c =
    closed_reply g.S.Joined.Link g.S.Door g.C.Clock g.E.Entropy _ c.args.desk.history.items _ c.in-Ok.stile.table.shared.key.1.value.history.items c.close-desk.result.history.items
    c.in-Ok-ended.field-0.seat.me.0 c.in-Ok-ended.field-0.round c.args.plan _ _ _ _ _ _ c.length.result _ _ _
    c.in-Ok-ended.ensures.served (search (rules, c.in-Ok.ensures.seat)) (search (rules, c.in-Ok.ensures.opening)) c.close-desk.ensures.seen c.close-desk.ensures.mine c.length.ensures c.in-Ok-ended.ensures.marks c.summary_reply.ensures
