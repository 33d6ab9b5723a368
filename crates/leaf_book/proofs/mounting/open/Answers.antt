use Rattle.cmp_ports.specs.Moments.{weaker, joins}
use Rattle.std.proofs.Common.{inl}
use Rattle.leaf_book.specs.Mounted.{IsBegun}
use Rattle.leaf_book.proofs.MountLemmas.{begun_more}
use Rattle.leaf_book.proofs.mounting.open.Goals as goal

pub returns-in-Ok-begin-clause-moments : goal.returns-in-Ok-begin-clause-moments
returns-in-Ok-begin-clause-moments g c =
    let before = g.D.Disk.images c.args.disk.now in
    let P = IsBegun before c.args.key.now in
    joins g.D.Disk.moment g.D.Disk.left_since c.args.disk.now c.mount.new.disk c.begin.new.disk P
    (weaker g.D.Disk.moment g.D.Disk.left_since _ _ _ P c.mount.ensures.moments (λ image was. inl was))
    (weaker g.D.Disk.moment g.D.Disk.left_since _ _ _ P c.begin.ensures.moments (λ image left. begun_more before (g.D.Disk.images c.mount.new.disk) c.args.key.now image c.mount.ensures.crash left))

pub returns-in-Err-Founded-clause-moments : goal.returns-in-Err-Founded-clause-moments
returns-in-Err-Founded-clause-moments g c =
    let before = g.D.Disk.images c.args.disk.now in
    let P = IsBegun before c.args.key.now in
    joins g.D.Disk.moment g.D.Disk.left_since c.args.disk.now c.mount.new.disk c.begin.new.disk P
    (weaker g.D.Disk.moment g.D.Disk.left_since _ _ _ P c.mount.ensures.moments (λ image was. inl was))
    (weaker g.D.Disk.moment g.D.Disk.left_since _ _ _ P c.begin.ensures.moments (λ image left. begun_more before (g.D.Disk.images c.mount.new.disk) c.args.key.now image c.mount.ensures.crash left))

pub returns-in-Err-DiskFault-begin-clause-moments : goal.returns-in-Err-DiskFault-begin-clause-moments
returns-in-Err-DiskFault-begin-clause-moments g c =
    let before = g.D.Disk.images c.args.disk.now in
    let P = IsBegun before c.args.key.now in
    joins g.D.Disk.moment g.D.Disk.left_since c.args.disk.now c.mount.new.disk c.begin.new.disk P
    (weaker g.D.Disk.moment g.D.Disk.left_since _ _ _ P c.mount.ensures.moments (λ image was. inl was))
    (weaker g.D.Disk.moment g.D.Disk.left_since _ _ _ P c.begin.ensures.moments (λ image left. begun_more before (g.D.Disk.images c.mount.new.disk) c.args.key.now image c.mount.ensures.crash left))

pub returns-in-Err-NotFounded-clause-moments : goal.returns-in-Err-NotFounded-clause-moments
returns-in-Err-NotFounded-clause-moments g c =
    let before = g.D.Disk.images c.args.disk.now in
    let P = IsBegun before c.args.key.now in
    joins g.D.Disk.moment g.D.Disk.left_since c.args.disk.now c.mount.new.disk c.begin.new.disk P
    (weaker g.D.Disk.moment g.D.Disk.left_since _ _ _ P c.mount.ensures.moments (λ image was. inl was))
    (weaker g.D.Disk.moment g.D.Disk.left_since _ _ _ P c.begin.ensures.moments (λ image left. begun_more before (g.D.Disk.images c.mount.new.disk) c.args.key.now image c.mount.ensures.crash left))
