-- each arm by what is promised of its body
use Rattle.intake.proofs.TaskLemmas.{ok_then, err_then}
use Rattle.intake.proofs.job.task_of.Goals as goal

pub returns-in-Enrols-clause-ok : goal.returns-in-Enrols-clause-ok
returns-in-Enrols-clause-ok c = rw c.in-Enrols.is c.enrolment.ensures.ok

pub returns-in-Enrols-clause-err : goal.returns-in-Enrols-clause-err
returns-in-Enrols-clause-err c = rw c.in-Enrols.is c.enrolment.ensures.err

pub returns-in-Confirms-clause-ok : goal.returns-in-Confirms-clause-ok
returns-in-Confirms-clause-ok c = rw c.in-Confirms.is (ok_then c.confirmation.result c.confirmation.ensures.ok (λ t k hashes proven is. k hashes))

pub returns-in-Confirms-clause-err : goal.returns-in-Confirms-clause-err
returns-in-Confirms-clause-err c = rw c.in-Confirms.is (err_then c.confirmation.result c.confirmation.ensures.err (λ u k hashes proven. k hashes))

pub returns-in-Polls-clause-ok : goal.returns-in-Polls-clause-ok
returns-in-Polls-clause-ok c = rw c.in-Polls.is (ok_then c.poll.result c.poll.ensures.ok (λ t k hashes proven is. k hashes))

pub returns-in-Withdraws-clause-ok : goal.returns-in-Withdraws-clause-ok
returns-in-Withdraws-clause-ok c = rw c.in-Withdraws.is (ok_then c.withdrawal.result c.withdrawal.ensures.ok (λ t k hashes proven is. k hashes))
