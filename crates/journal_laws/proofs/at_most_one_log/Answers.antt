use Rattle.journal_laws.proofs.Unique.{one_log}
use Rattle.journal_laws.proofs.at_most_one_log.Goals as goal

pub returns : goal.returns
returns c = one_log
