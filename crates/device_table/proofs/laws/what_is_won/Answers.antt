use Rattle.device_table.proofs.WonLemmas.{won, confirmed}
use Rattle.device_table.proofs.laws.what_is_won.Goals as goal

pub returns-clause-won : goal.returns-clause-won
returns-clause-won c = won

pub returns-clause-confirmed : goal.returns-clause-confirmed
returns-clause-confirmed c = confirmed
