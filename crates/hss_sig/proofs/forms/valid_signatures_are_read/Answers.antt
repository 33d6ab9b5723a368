-- Level by level.
use Rattle.hss_sig.proofs.ValidLemmas.{valid_in_form}
use Rattle.hss_sig.proofs.forms.valid_signatures_are_read.Goals as goal

pub returns : goal.returns
returns c = λ key text sig ok. valid_in_form key text sig ok
