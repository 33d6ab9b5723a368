-- The body came whole, or was cut off.
use Rattle.std.proofs.Common.{◌≡◌, true, false}
use Rattle.http_heads.proofs.NextLemmas.{cut_off, served_next}
use Rattle.http_heads.proofs.next.next_body.Goals as goal

pub returns-in-Ok-true-clause-next : goal.returns-in-Ok-true-clause-next
returns-in-Ok-true-clause-next g c =
    let whole : c.in-Ok-true.field-0 ≡ true = cc in
    let known = rw c.drop_first.ensures at c.in-Ok-true.ensures.known in
    served_next c.args.buffer.now c.read_until.new.octets c.take_body.new.buffer (g.L.Link.left c.args.link.now) (g.L.Link.left c.read_until.new.link) c.args.asked
    c.take_body.result c.requires known (c.in-Ok-true.ensures.enough whole) c.take_body.ensures

pub returns-in-Ok-false-clause-next : goal.returns-in-Ok-false-clause-next
returns-in-Ok-false-clause-next g c =
    let cut : c.in-Ok-false.field-0 ≡ false = cc in
    let known = rw c.drop_first.ensures at c.in-Ok-false.ensures.known in
    let end = c.in-Ok-false.ensures.end cut in
    cut_off c.args.buffer.now c.read_until.new.octets (g.L.Link.left c.args.link.now) (g.L.Link.left c.read_until.new.link) c.args.asked c.requires known end.0 end.1
