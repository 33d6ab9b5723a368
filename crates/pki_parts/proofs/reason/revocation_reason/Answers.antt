-- by the law of reasons
use Rattle.pki_parts.proofs.ReasonLemmas.{reason_found, reason_only}
use Rattle.pki_parts.proofs.reason.revocation_reason.Goals as goal

pub returns-clause-found : goal.returns-clause-found
returns-clause-found c = reason_found _ _ c.reason_inside_option.ensures

pub returns-clause-only : goal.returns-clause-only
returns-clause-only c = reason_only _ _ c.reason_inside_option.ensures
