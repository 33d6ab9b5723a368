use Rattle.deal_answers.proofs.Owners.{owner_stays}
use Rattle.deal_answers.proofs.laws.owners_stay.Goals as goal

pub returns : goal.returns
returns c = owner_stays
