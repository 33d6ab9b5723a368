-- by the law of answers
use Rattle.pki_parts.proofs.PollingLemmas.{poll_rep_found, poll_rep_only}
use Rattle.pki_parts.proofs.polling.read_poll_rep.Goals as goal

pub returns-clause-found : goal.returns-clause-found
returns-clause-found c = poll_rep_found _ _ c.answer_entries.ensures

pub returns-clause-only : goal.returns-clause-only
returns-clause-only c = poll_rep_only _ _ c.answer_entries.ensures
