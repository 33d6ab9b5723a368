-- by the law of lists
use Rattle.pki_parts.specs.Polling.{poll_req_of}
use Rattle.pki_parts.proofs.ListLemmas.{list_found, list_only, integer_alone}
use Rattle.pki_parts.proofs.polling.read_poll_req.Goals as goal

pub returns-clause-found : goal.returns-clause-found
returns-clause-found c = list_found integer_alone poll_req_of _ _ c.poll_entries.ensures

pub returns-clause-only : goal.returns-clause-only
returns-clause-only c = list_only integer_alone poll_req_of _ _ c.poll_entries.ensures
