use Rattle.std.proofs.Common.{arith}
use Rattle.deal_changes.proofs.ChangeLaws.{is_found, is_only, is_writeable}
use Rattle.deal_changes.proofs.reading.read_change.Goals as goal

-- what is read is spelled so
pub returns-clause-found : goal.returns-clause-found
returns-clause-found c = is_found c.args.bytes.now c.whole_change.result (λ i. omega (arith, c.type_inv.bytes i)) c.whole_change.ensures

-- what is spelled so is read
pub returns-clause-only : goal.returns-clause-only
returns-clause-only c = λ change h e. is_only c.args.bytes.now c.whole_change.result change c.whole_change.ensures h e

-- what is read can be written
pub returns-clause-writeable : goal.returns-clause-writeable
returns-clause-writeable c = is_writeable c.args.bytes.now c.whole_change.result (λ i. omega (arith, c.type_inv.bytes i)) c.whole_change.ensures
