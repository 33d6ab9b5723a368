use Rattle.journal_laws.proofs.Unique.{one_damage}
use Rattle.journal_laws.proofs.at_most_one_damage.Goals as goal

pub returns : goal.returns
returns c = one_damage
