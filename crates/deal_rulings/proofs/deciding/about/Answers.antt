-- The job is a request.
use Rattle.deal_rulings.proofs.deciding.about.Goals as goal

pub returns-in-Enrol : goal.returns-in-Enrol
returns-in-Enrol c = rw c.in-Enrol.is c.enrol.ensures
