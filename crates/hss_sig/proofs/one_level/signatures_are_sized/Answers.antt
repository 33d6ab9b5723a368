-- By the parts of a signature.
use Rattle.hss_sig.proofs.OneLevelLemmas.{signatures_are_sized}
use Rattle.hss_sig.proofs.one_level.signatures_are_sized.Goals as goal

pub returns : goal.returns
returns c = signatures_are_sized
