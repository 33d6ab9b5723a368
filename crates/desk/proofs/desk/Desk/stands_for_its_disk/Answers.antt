use Rattle.desk.specs.History.{history_of}
use Rattle.desk.proofs.Kept.{keeps_out, keeps_images}
use Rattle.desk.proofs.desk.Desk.stands_for_its_disk.Goals as goal

pub returns-clause-images : goal.returns-clause-images
returns-clause-images g c =
    let s = c.args.self.now in
    keeps_images (history_of s) s.doubt s.journal (g.D.Disk.images s.disk) (keeps_out (history_of s) s.doubt s.journal (g.D.Disk.images s.disk) s.kept)
