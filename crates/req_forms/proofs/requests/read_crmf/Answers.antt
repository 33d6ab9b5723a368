-- by the law of lists of messages
use Rattle.req_forms.proofs.RequestLemmas.{crmf_found, crmf_only}
use Rattle.req_forms.proofs.requests.read_crmf.Goals as goal

pub returns-clause-found : goal.returns-clause-found
returns-clause-found c = crmf_found _ _ c.list_alone.ensures

pub returns-clause-only : goal.returns-clause-only
returns-clause-only c = crmf_only _ _ c.list_alone.ensures
