use Rattle.der_base.proofs.ElementLemmas.{begins_no_other}
use Rattle.der_base.proofs.laws.begins_no_other.Goals as goal

pub returns : goal.returns
returns c = begins_no_other
