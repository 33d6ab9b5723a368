use Rattle.desk.specs.History.{history_of}
use Rattle.desk.proofs.Kept.{keeps_out, keeps_images}
use Rattle.desk.proofs.sole_clerk.SoleClerkClerk.stands_for_its_disk.Goals as goal

pub returns : goal.returns
returns g c =
    let d = c.args.self.now.desk.now in
    let images = keeps_images (history_of d) d.doubt d.journal (g.D.Disk.images d.disk) (keeps_out (history_of d) d.doubt d.journal (g.D.Disk.images d.disk) d.kept) in
    λ image left. images image (g.met.D.Disk.only_now d.disk image left)
