-- by the law of certification requests
use Rattle.req_forms.proofs.Pkcs10Lemmas.{p10_found, p10_only}
use Rattle.req_forms.proofs.pkcs10.read_p10.Goals as goal

pub returns-clause-found : goal.returns-clause-found
returns-clause-found c = p10_found _ _ c.p10_alone.ensures

pub returns-clause-only : goal.returns-clause-only
returns-clause-only c = p10_only _ _ c.p10_alone.ensures
