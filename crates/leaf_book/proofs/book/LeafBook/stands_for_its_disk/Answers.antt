use Rattle.leaf_book.proofs.Kept.{keeps_out, keeps_images}
use Rattle.leaf_book.proofs.book.LeafBook.stands_for_its_disk.Goals as goal

pub returns-clause-images : goal.returns-clause-images
returns-clause-images g c =
    let s = c.args.self.now in
    keeps_images s.key s.given.items s.doubt s.journal (g.D.Disk.images s.disk) (keeps_out s.key s.given.items s.doubt s.journal (g.D.Disk.images s.disk) s.kept)
