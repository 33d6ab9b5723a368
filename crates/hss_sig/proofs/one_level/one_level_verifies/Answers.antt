-- By the law of the tree.
use Rattle.hss_sig.proofs.OneLevelLemmas.{one_level_law}
use Rattle.hss_sig.proofs.one_level.one_level_verifies.Goals as goal

pub returns : goal.returns
returns c = λ secret leaf text sized some below. one_level_law secret leaf text sized some below
