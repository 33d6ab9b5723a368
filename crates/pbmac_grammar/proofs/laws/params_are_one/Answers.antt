use Rattle.pbmac_grammar.proofs.ParamsLemmas.{params_are_one}
use Rattle.pbmac_grammar.proofs.laws.params_are_one.Goals as goal

pub returns : goal.returns
returns c = params_are_one
