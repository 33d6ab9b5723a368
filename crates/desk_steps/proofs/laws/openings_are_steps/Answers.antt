use Rattle.desk_steps.proofs.Openings.{found, first_mount, mount, remount}
use Rattle.desk_steps.proofs.laws.openings_are_steps.Goals as goal

pub returns-clause-found : goal.returns-clause-found
returns-clause-found c = found

pub returns-clause-first : goal.returns-clause-first
returns-clause-first c = first_mount c.at_most_one_answer.ensures

pub returns-clause-mounted : goal.returns-clause-mounted
returns-clause-mounted c = mount c.at_most_one_answer.ensures c.legal_histories_grow.ensures.grows

pub returns-clause-remounted : goal.returns-clause-remounted
returns-clause-remounted c = remount c.at_most_one_answer.ensures
