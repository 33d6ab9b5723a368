use Rattle.desk_steps.proofs.Calls.{looked, decided, lapses, orders, enlists, dismisses}
use Rattle.desk_steps.proofs.Stops.{stop}
use Rattle.desk_steps.proofs.laws.calls_are_steps.Goals as goal

pub returns-clause-looked : goal.returns-clause-looked
returns-clause-looked c = looked

pub returns-clause-decided : goal.returns-clause-decided
returns-clause-decided c = decided

pub returns-clause-lapsed : goal.returns-clause-lapsed
returns-clause-lapsed c = lapses

pub returns-clause-ordered : goal.returns-clause-ordered
returns-clause-ordered c = orders

pub returns-clause-enlisted : goal.returns-clause-enlisted
returns-clause-enlisted c = enlists

pub returns-clause-dismissed : goal.returns-clause-dismissed
returns-clause-dismissed c = dismisses

pub returns-clause-stop : goal.returns-clause-stop
returns-clause-stop c = stop
