-- what was written is read again
use Rattle.std.proofs.Common.{rules}
use Rattle.pki_parts.specs.Polling.{poll_rep_octets}
use Rattle.pki_parts.proofs.PollingLemmas.{poll_rep_result, poll_rep_size}
use Rattle.pki_parts.proofs.ListLemmas.{written_size}
use Rattle.pki_parts.proofs.polling.write_poll_rep.Goals as goal

pub returns-clause-written : goal.returns-clause-written
returns-clause-written c = search rules

pub returns-clause-again : goal.returns-clause-again
returns-clause-again c = poll_rep_result c.poll_rep_written.result c.args.id c.args.after c.ranges.after.fits (returns-clause-written c)

pub returns-clause-size : goal.returns-clause-size
returns-clause-size c = written_size c.poll_rep_written.result (poll_rep_octets c.args.id c.args.after) 64 (poll_rep_size c.args.id c.args.after) (returns-clause-written c)
