-- by the law of replies
use Rattle.pki_parts.proofs.CertRepLemmas.{rep_found, rep_only}
use Rattle.pki_parts.proofs.cert_rep.read_cert_rep.Goals as goal

pub returns-clause-found : goal.returns-clause-found
returns-clause-found c = rep_found c.rep_element.result c.args.e.now.tag c.args.e.now.content.now c.rep_element.ensures

pub returns-clause-only : goal.returns-clause-only
returns-clause-only c = rep_only c.rep_element.result c.args.e.now.tag c.args.e.now.content.now c.rep_element.ensures
