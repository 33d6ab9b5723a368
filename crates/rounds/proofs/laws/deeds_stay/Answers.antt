use Rattle.rounds.proofs.DeedLemmas.{deeds_later, deeds_sooner, deeds_joined}
use Rattle.rounds.proofs.laws.deeds_stay.Goals as goal

pub returns-clause-later : goal.returns-clause-later
returns-clause-later c = λ h g floor ds deeds begun. deeds_later h g floor ds deeds begun

pub returns-clause-sooner : goal.returns-clause-sooner
returns-clause-sooner c = λ h least floor ds deeds sooner. deeds_sooner h least floor ds deeds sooner

pub returns-clause-joined : goal.returns-clause-joined
returns-clause-joined c = λ h g floor middle ds es deeds begun later behind. deeds_joined h g floor middle ds es deeds begun later behind
