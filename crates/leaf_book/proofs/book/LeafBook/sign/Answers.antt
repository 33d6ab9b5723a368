use Rattle.leaf_book.proofs.SignLemmas.{below_tree}
use Rattle.leaf_book.proofs.book.LeafBook.sign.Goals as goal

pub sign_at-requires : goal.sign_at-requires
sign_at-requires g c =
    let s = c.args.self.now in
    let w = c.args.warrant.now in
    below_tree s.key w.key w.leaf s.size s.own c.requires w.below
