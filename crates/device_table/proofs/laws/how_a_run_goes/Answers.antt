use Rattle.device_table.proofs.RunLemmas.{granted, implied, enrolled}
use Rattle.device_table.proofs.laws.how_a_run_goes.Goals as goal

pub returns-clause-granted : goal.returns-clause-granted
returns-clause-granted c = granted

pub returns-clause-implicit : goal.returns-clause-implicit
returns-clause-implicit c = implied

pub returns-clause-enrolled : goal.returns-clause-enrolled
returns-clause-enrolled c = enrolled
