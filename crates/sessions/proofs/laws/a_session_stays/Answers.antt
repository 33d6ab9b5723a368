use Rattle.sessions.proofs.Stays.{sessions_stay, sessions_begin_sooner}
use Rattle.sessions.proofs.laws.a_session_stays.Goals as goal

pub returns-clause-later : goal.returns-clause-later
returns-clause-later c = sessions_stay c.what_is_settled_stays.ensures.receipts

pub returns-clause-sooner : goal.returns-clause-sooner
returns-clause-sooner c = sessions_begin_sooner
