use Rattle.deal_table.proofs.Allowed.{made_allowed, left_allowed}
use Rattle.deal_table.proofs.Stamped.{decision_stamped, left_stamped}
use Rattle.deal_table.proofs.laws.what_is_made_is_allowed.Goals as goal

pub returns-clause-decided : goal.returns-clause-decided
returns-clause-decided c = made_allowed

pub returns-clause-left : goal.returns-clause-left
returns-clause-left c = left_allowed

pub returns-clause-stamped : goal.returns-clause-stamped
returns-clause-stamped c = decision_stamped

pub returns-clause-left_stamped : goal.returns-clause-left_stamped
returns-clause-left_stamped c = left_stamped
