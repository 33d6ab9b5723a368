use Rattle.pbmac_grammar.proofs.PieceLemmas.{algorithm_is_spelled}
use Rattle.pbmac_grammar.proofs.laws.algorithm_is_spelled.Goals as goal

pub returns : goal.returns
returns c = algorithm_is_spelled
