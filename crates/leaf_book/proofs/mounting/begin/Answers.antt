use Rattle.std.proofs.Common.{ap, ◌∙◌}
use Rattle.cmp_ports.specs.Moments.{weaker, joins}
use Rattle.leaf_book.specs.Leaves.{key_payload}
use Rattle.leaf_book.specs.Mounted.{IsBegun}
use Rattle.leaf_book.proofs.MountLemmas.{prepared_left, begun_left}
use Rattle.leaf_book.proofs.mounting.begin.Goals as goal

pub returns-in-Err-DiskFault-found-clause-moments : goal.returns-in-Err-DiskFault-found-clause-moments
returns-in-Err-DiskFault-found-clause-moments g c =
    let P = IsBegun (g.D.Disk.images c.args.disk.now) c.args.key.now in
    joins g.D.Disk.moment g.D.Disk.left_since c.args.disk.now c.prepare.new.disk c.found.new.disk P
    (weaker g.D.Disk.moment g.D.Disk.left_since _ _ _ P c.prepare.ensures.moments (λ image left. prepared_left (g.D.Disk.images c.args.disk.now) c.args.key.now image left))
    (weaker g.D.Disk.moment g.D.Disk.left_since _ _ _ P c.found.ensures.moments (λ image left. begun_left (g.D.Disk.images c.args.disk.now) c.args.key.now c.key_payload.result image (c.key_payload.ensures ∙ ap key_payload c.lms_key.ensures.value) left))
