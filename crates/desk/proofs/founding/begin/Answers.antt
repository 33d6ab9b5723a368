use Rattle.cmp_ports.specs.Moments.{weaker, joins}
use Rattle.desk.specs.Founded.{IsBegun}
use Rattle.desk.proofs.FoundLemmas.{prepared_left, begun_left}
use Rattle.desk.proofs.founding.begin.Goals as goal

pub returns-in-Ok-found-clause-moments : goal.returns-in-Ok-found-clause-moments
returns-in-Ok-found-clause-moments g c =
    let P = IsBegun (g.D.Disk.images c.args.disk.now) c.args.first.now in
    joins g.D.Disk.moment g.D.Disk.left_since c.args.disk.now c.prepare.new.disk c.found.new.disk P
    (weaker g.D.Disk.moment g.D.Disk.left_since _ _ _ P c.prepare.ensures.moments (λ image left. prepared_left (g.D.Disk.images c.args.disk.now) c.args.first.now image left))
    (weaker g.D.Disk.moment g.D.Disk.left_since _ _ _ P c.found.ensures.moments (λ image left. begun_left (g.D.Disk.images c.args.disk.now) c.args.first.now image left))

pub returns-in-Err-found-clause-moments : goal.returns-in-Err-found-clause-moments
returns-in-Err-found-clause-moments g c =
    let P = IsBegun (g.D.Disk.images c.args.disk.now) c.args.first.now in
    joins g.D.Disk.moment g.D.Disk.left_since c.args.disk.now c.prepare.new.disk c.found.new.disk P
    (weaker g.D.Disk.moment g.D.Disk.left_since _ _ _ P c.prepare.ensures.moments (λ image left. prepared_left (g.D.Disk.images c.args.disk.now) c.args.first.now image left))
    (weaker g.D.Disk.moment g.D.Disk.left_since _ _ _ P c.found.ensures.moments (λ image left. begun_left (g.D.Disk.images c.args.disk.now) c.args.first.now image left))
