-- what was written is read again
use Rattle.pki_parts.specs.Revocation.{rev_req_octets}
use Rattle.pki_parts.proofs.ReasonLemmas.{reason_written}
use Rattle.pki_parts.proofs.RevocationLemmas.{rev_req_result, rev_req_reason, rev_req_size}
use Rattle.pki_parts.proofs.ListLemmas.{written_size}
use Rattle.pki_parts.proofs.revocation.write_rev_req.Goals as goal

pub returns-clause-again : goal.returns-clause-again
returns-clause-again c = rev_req_result c.rev_req_written.result c.args.issuer.now c.args.serial c.args.reason c.ranges.serial.fits c.requires c.rev_req_written.ensures

pub returns-clause-reason : goal.returns-clause-reason
returns-clause-reason c = λ name is. rev_req_reason c.rev_req_written.result c.args.issuer.now c.args.serial c.args.reason (returns-clause-again c name) (reason_written c.args.reason is)

pub returns-clause-size : goal.returns-clause-size
returns-clause-size c = written_size c.rev_req_written.result (rev_req_octets c.args.issuer.now c.args.serial c.args.reason) _ (rev_req_size c.args.issuer.now c.args.serial c.args.reason) c.rev_req_written.ensures
