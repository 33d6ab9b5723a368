-- what was written is read again
use Rattle.pki_parts.proofs.ErrorLemmas.{error_result}
use Rattle.pki_parts.proofs.error.write_error.Goals as goal

pub returns-clause-again : goal.returns-clause-again
returns-clause-again c = error_result c.error_written.result c.args.status.now c.requires c.error_written.ensures
