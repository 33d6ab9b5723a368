-- All parts are there.
use Rattle.http_wire.specs.Framing.{closing_field, length_field, status_field, status_line}
use Rattle.std.proofs.Common.{length, ◌∷◌, []}
use Rattle.http_wire.proofs.FrameLemmas.{parts_in_order}
use Rattle.http_wire.proofs.frame.put_framed.Goals as goal

pub returns-clause-ok : goal.returns-clause-ok
returns-clause-ok c =
    let closing = rw c.closing_field.ensures at c.in_ok-put.ensures.ok in
    parts_in_order c.put-3.result _ _ _ _ _ _ (status_line c.args.status) (status_field c.args.status) (length_field (length c.args.body.now)) (closing_field c.args.last) (13 ∷ 10 ∷ [])
    c.args.body.now c.in_ok-put_status.ensures.ok c.in_ok-put_length.ensures.ok closing c.in_ok-put-2.ensures.ok c.put-3.ensures.ok
