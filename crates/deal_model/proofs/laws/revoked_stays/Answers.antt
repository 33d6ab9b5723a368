use Rattle.deal_model.proofs.Revoked.{stays_revoked}
use Rattle.deal_model.proofs.laws.revoked_stays.Goals as goal

pub returns : goal.returns
returns c = stays_revoked
