use Rattle.desk_laws.proofs.Exclude.{one_answer}
use Rattle.desk_laws.proofs.at_most_one_answer.Goals as goal

pub returns : goal.returns
returns c = one_answer c.at_most_one_log.ensures c.recovered_is_undamaged.ensures c.at_most_one_damage.ensures
