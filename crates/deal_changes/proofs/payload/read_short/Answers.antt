use Rattle.std.proofs.Common.{arith}
use Rattle.deal_changes.specs.Spelling.{short, IsShort}
use Rattle.deal_changes.specs.Reading.{short_at}
use Rattle.deal_changes.proofs.PartForms.{short_form}
use Rattle.deal_changes.proofs.PayloadLemmas.{is_spelled, is_found}
use Rattle.deal_changes.proofs.payload.read_short.Goals as goal

-- what is read is spelled so
pub returns-clause-read : goal.returns-clause-read
returns-clause-read c = is_spelled short_at short IsShort short_form c.args.bytes.now _ c.short_of.result (λ i. omega (arith, c.type_inv.bytes i)) c.short_of.ensures

-- what is spelled so is read
pub returns-clause-found : goal.returns-clause-found
returns-clause-found c = is_found short_at short IsShort short_form c.args.bytes.now _ c.short_of.result c.short_of.ensures
