use Rattle.leaf_book.proofs.LawLemmas.{stays}
use Rattle.leaf_book.proofs.laws.stops_keep_leaves.Goals as goal

pub returns : goal.returns
returns c = λ s given later image left opens. stays c.at_most_one_log.ensures s given later image left opens
