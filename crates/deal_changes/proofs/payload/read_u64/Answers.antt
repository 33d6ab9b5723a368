use Rattle.std.proofs.Common.{◌<◌, ◌^◌, arith}
use Rattle.std.specs.Int.{w64}
use Rattle.deal_changes.specs.Spelling.{u64}
use Rattle.deal_changes.specs.Reading.{number_at}
use Rattle.deal_changes.proofs.PartForms.{u64_form}
use Rattle.deal_changes.proofs.PayloadLemmas.{is_spelled, is_found}
use Rattle.deal_changes.proofs.payload.read_u64.Goals as goal

-- what is read is spelled so
pub returns-clause-read : goal.returns-clause-read
returns-clause-read c = is_spelled (number_at w64) u64 (λ n. n < 2 ^ 64) u64_form c.args.bytes.now _ c.u64_of.result (λ i. omega (arith, c.type_inv.bytes i)) c.u64_of.ensures

-- what is spelled so is read
pub returns-clause-found : goal.returns-clause-found
returns-clause-found c = is_found (number_at w64) u64 (λ n. n < 2 ^ 64) u64_form c.args.bytes.now _ c.u64_of.result c.u64_of.ensures
