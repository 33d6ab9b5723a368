-- by the law of lists
use Rattle.pki_parts.specs.Revocation.{rev_req_of}
use Rattle.pki_parts.proofs.ListLemmas.{list_found, list_only}
use Rattle.pki_parts.proofs.RevocationLemmas.{rev_is_read}
use Rattle.pki_parts.proofs.revocation.read_rev_req.Goals as goal

pub returns-clause-found : goal.returns-clause-found
returns-clause-found c = list_found rev_is_read rev_req_of _ _ c.rev_entries.ensures

pub returns-clause-only : goal.returns-clause-only
returns-clause-only c = list_only rev_is_read rev_req_of _ _ c.rev_entries.ensures
