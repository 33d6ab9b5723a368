use Rattle.deal_answers.proofs.Finds.{found_is_timely}
use Rattle.deal_answers.proofs.standings.is_grant_over.Goals as goal

-- what is found is one of the changes
pub is_over-requires : goal.is_over-requires
is_over-requires c = rw c.grant_of.ensures (found_is_timely _ _ c.requires)
