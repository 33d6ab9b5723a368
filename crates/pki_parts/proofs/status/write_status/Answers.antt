-- what was written is read again
use Rattle.std.proofs.Common.{arith}
use Rattle.std.specs.Option.{option_copied}
use Rattle.pki_parts.proofs.StatusLemmas.{status_result}
use Rattle.pki_parts.proofs.status.write_status.Goals as goal

pub returns-clause-again : goal.returns-clause-again
returns-clause-again c = status_result c.status_written.result c.args.status (option_copied c.args.text) c.args.fail (omega (arith, c.ranges.status.fits)) c.requires c.status_written.ensures
