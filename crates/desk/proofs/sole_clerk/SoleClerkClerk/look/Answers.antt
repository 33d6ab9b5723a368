use Rattle.std.proofs.Common.{sym, subst}
use Rattle.cmp_ports.specs.Disk.{LeavesOnly}
use Rattle.cmp_ports.specs.Moments.{started}
use Rattle.desk.specs.History.{history_of}
use Rattle.desk.specs.Images.{RecoversWith, IsDoubt}
use Rattle.desk.proofs.Kept.{keeps_out, keeps_images}
use Rattle.desk.proofs.sole_clerk.SoleClerkClerk.look.Goals as goal

pub returns-clause-moments : goal.returns-clause-moments
returns-clause-moments g c =
    let d = c.args.self.now.desk.now in
    let P = RecoversWith (history_of d) (IsDoubt d.doubt) in
    let images = keeps_images (history_of d) d.doubt d.journal (g.D.Disk.images d.disk) (keeps_out (history_of d) d.doubt d.journal (g.D.Disk.images d.disk) d.kept) in
    let begun = started g.D.Disk.moment g.D.Disk.left_since d.disk P (λ image left. images image (g.met.D.Disk.only_now d.disk image left)) in
    let moments = subst (λ x. LeavesOnly g.D.Disk.moment g.D.Disk.left_since d.disk x.disk P) (sym c.look.ensures.same) begun in
    record { later = moments.later; each = moments.each; before = moments.before }
