-- what was written is read again
use Rattle.pki_header.proofs.PlanLemmas.{header_result, header_size}
use Rattle.pki_header.proofs.plan.write_header.Goals as goal

pub returns-clause-size : goal.returns-clause-size
returns-clause-size c = header_size c.header_written.result c.args.plan.now c.header_written.ensures

pub returns-clause-again : goal.returns-clause-again
returns-clause-again c = header_result c.header_written.result c.args.plan.now c.requires.counted c.header_written.ensures
