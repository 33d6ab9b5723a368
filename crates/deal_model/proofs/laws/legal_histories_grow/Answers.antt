use Rattle.deal_model.proofs.Histories.{legal_more, legal_take}
use Rattle.deal_model.proofs.laws.legal_histories_grow.Goals as goal

pub returns-clause-grows : goal.returns-clause-grows
returns-clause-grows c = legal_more

pub returns-clause-begins : goal.returns-clause-begins
returns-clause-begins c = legal_take
