-- what was written is read again
use Rattle.std.proofs.Common.{rules}
use Rattle.pki_parts.specs.Polling.{poll_req_octets}
use Rattle.pki_parts.proofs.PollingLemmas.{poll_req_result, poll_req_size}
use Rattle.pki_parts.proofs.ListLemmas.{written_size}
use Rattle.pki_parts.proofs.polling.write_poll_req.Goals as goal

pub returns-clause-written : goal.returns-clause-written
returns-clause-written c = search rules

pub returns-clause-again : goal.returns-clause-again
returns-clause-again c = poll_req_result c.poll_req_written.result c.args.id (returns-clause-written c)

pub returns-clause-size : goal.returns-clause-size
returns-clause-size c = written_size c.poll_req_written.result (poll_req_octets c.args.id) 64 (poll_req_size c.args.id) (returns-clause-written c)
