use Rattle.der_base.proofs.RowLemmas.{row_is_read}
use Rattle.der_base.proofs.laws.row_is_read.Goals as goal

pub returns : goal.returns
returns c = row_is_read
