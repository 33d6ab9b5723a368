use Rattle.desk_steps.proofs.Shared.{shared_decided, shared_makes, shared_lapsed, shared_ordered}
use Rattle.desk_steps.proofs.laws.shared_calls_are_steps.Goals as goal

pub returns-clause-decided : goal.returns-clause-decided
returns-clause-decided c = shared_decided

pub returns-clause-makes : goal.returns-clause-makes
returns-clause-makes c = shared_makes

pub returns-clause-lapsed : goal.returns-clause-lapsed
returns-clause-lapsed c = shared_lapsed

pub returns-clause-ordered : goal.returns-clause-ordered
returns-clause-ordered c = shared_ordered
