-- what was written is read again
use Rattle.std.proofs.Common.{rules}
use Rattle.std.specs.Option.{option_copied}
use Rattle.pki_parts.proofs.CertRepLemmas.{rep_result}
use Rattle.pki_parts.proofs.cert_rep.write_cert_rep.Goals as goal

pub returns-clause-written : goal.returns-clause-written
returns-clause-written c = search rules

pub returns-clause-again : goal.returns-clause-again
returns-clause-again c = rep_result c.rep_written.result (option_copied c.args.ca_pubs) c.args.id c.args.status.now (option_copied c.args.cert) c.requires (returns-clause-written c)
