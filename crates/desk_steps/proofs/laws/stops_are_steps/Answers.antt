use Rattle.desk.specs.Due.{IsLapse}
use Rattle.desk.specs.Calls.{IsOrder}
use Rattle.desk.specs.Listings.{IsEnlisting, IsDismissal}
use Rattle.desk.specs.Verdicts.{LeftMakes}
use Rattle.desk_steps.proofs.Stops.{in_call, idle}
use Rattle.desk_steps.proofs.laws.stops_are_steps.Goals as goal

pub returns-clause-decide : goal.returns-clause-decide
returns-clause-decide c = λ h d k now words image lawful left. in_call c.legal_histories_grow.ensures.grows (LeftMakes h k now words) h d image lawful left

pub returns-clause-lapse : goal.returns-clause-lapse
returns-clause-lapse c = λ h d time image lawful left. in_call c.legal_histories_grow.ensures.grows (IsLapse h time) h d image lawful left

pub returns-clause-order : goal.returns-clause-order
returns-clause-order c = λ h d order time image lawful left. in_call c.legal_histories_grow.ensures.grows (IsOrder order time) h d image lawful left

pub returns-clause-enlist : goal.returns-clause-enlist
returns-clause-enlist c = λ h d list time image lawful left. in_call c.legal_histories_grow.ensures.grows (IsEnlisting list time) h d image lawful left

pub returns-clause-dismiss : goal.returns-clause-dismiss
returns-clause-dismiss c = λ h d kind kid time image lawful left. in_call c.legal_histories_grow.ensures.grows (IsDismissal kind kid time) h d image lawful left

pub returns-clause-idle : goal.returns-clause-idle
returns-clause-idle c = idle c.legal_histories_grow.ensures.grows
