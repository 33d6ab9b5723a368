-- by the forms of the fields
use Rattle.x509_cert.proofs.PlanLemmas.{plan_is_read}
use Rattle.x509_cert.proofs.plan.written_is_read.Goals as goal

pub returns : goal.returns
returns c = plan_is_read
