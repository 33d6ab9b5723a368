-- what was written is read again
use Rattle.pki_parts.specs.Revoked.{rev_rep_octets}
use Rattle.pki_parts.proofs.RevokedLemmas.{rev_rep_result, rev_rep_size}
use Rattle.pki_parts.proofs.ListLemmas.{written_size}
use Rattle.pki_parts.proofs.revoked.write_rev_rep.Goals as goal

pub returns-clause-again : goal.returns-clause-again
returns-clause-again c = rev_rep_result c.rev_rep_written.result c.args.status.now c.requires c.rev_rep_written.ensures

pub returns-clause-size : goal.returns-clause-size
returns-clause-size c = written_size c.rev_rep_written.result (rev_rep_octets c.args.status.now) _ (rev_rep_size c.args.status.now) c.rev_rep_written.ensures
