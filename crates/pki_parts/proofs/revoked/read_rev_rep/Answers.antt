-- by the law of responses
use Rattle.pki_parts.proofs.RevokedLemmas.{rev_rep_found, rev_rep_only}
use Rattle.pki_parts.proofs.revoked.read_rev_rep.Goals as goal

pub returns-clause-found : goal.returns-clause-found
returns-clause-found c = rev_rep_found _ _ c.rev_rep_element.ensures

pub returns-clause-only : goal.returns-clause-only
returns-clause-only c = rev_rep_only _ _ c.rev_rep_element.ensures
