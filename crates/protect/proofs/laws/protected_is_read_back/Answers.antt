use Rattle.protect.proofs.BackLemmas.{protected_is_read_back}
use Rattle.protect.proofs.laws.protected_is_read_back.Goals as goal

pub returns : goal.returns
returns c = protected_is_read_back
