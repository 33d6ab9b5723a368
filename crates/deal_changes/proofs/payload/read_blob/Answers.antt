use Rattle.std.proofs.Common.{arith}
use Rattle.deal_changes.specs.Spelling.{blob, IsBlob}
use Rattle.deal_changes.specs.Reading.{blob_at}
use Rattle.deal_changes.proofs.PartForms.{blob_form}
use Rattle.deal_changes.proofs.PayloadLemmas.{is_spelled, is_found}
use Rattle.deal_changes.proofs.payload.read_blob.Goals as goal

-- what is read is spelled so
pub returns-clause-read : goal.returns-clause-read
returns-clause-read c = is_spelled blob_at blob IsBlob blob_form c.args.bytes.now _ c.blob_of.result (λ i. omega (arith, c.type_inv.bytes i)) c.blob_of.ensures

-- what is spelled so is read
pub returns-clause-found : goal.returns-clause-found
returns-clause-found c = is_found blob_at blob IsBlob blob_form c.args.bytes.now _ c.blob_of.result c.blob_of.ensures
