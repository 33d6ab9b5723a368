use Rattle.journal_laws.proofs.Unique.{undamaged}
use Rattle.journal_laws.proofs.recovered_is_undamaged.Goals as goal

pub returns : goal.returns
returns c = undamaged
