use Rattle.deal_table.proofs.Later.{decision_left}
use Rattle.deal_table.proofs.Blind.{blind_refines}
use Rattle.deal_table.proofs.Sends.{left_answers, left_stale, left_sends, never_asks, decided_later}
use Rattle.deal_table.proofs.laws.what_is_left_decides.Goals as goal

pub returns-clause-left : goal.returns-clause-left
returns-clause-left c = decision_left

pub returns-clause-blind : goal.returns-clause-blind
returns-clause-blind c = blind_refines

pub returns-clause-sends : goal.returns-clause-sends
returns-clause-sends c = left_sends

pub returns-clause-answers : goal.returns-clause-answers
returns-clause-answers c = left_answers

pub returns-clause-asks : goal.returns-clause-asks
returns-clause-asks c = left_stale

pub returns-clause-compared : goal.returns-clause-compared
returns-clause-compared c = never_asks

pub returns-clause-time : goal.returns-clause-time
returns-clause-time c = decided_later
