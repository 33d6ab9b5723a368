use Rattle.std.proofs.Common.{ap, Some}
use Rattle.deal_model.specs.declared.states.CertificateState.{CertificateState}
use Rattle.deal_answers.proofs.views.state_by_change.Goals as goal

-- the state of the Grant is that of its certificate
pub returns-in-Grant : goal.returns-in-Grant
returns-in-Grant c = rw c.in-Grant.is (ap (λ (state : CertificateState). Some state) c.state_of_grant.ensures)
