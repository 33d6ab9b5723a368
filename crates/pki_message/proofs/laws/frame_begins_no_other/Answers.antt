-- as no element does
use Rattle.pki_message.proofs.FrameLemmas.{frame_begins_no_other}
use Rattle.pki_message.proofs.laws.frame_begins_no_other.Goals as goal

pub returns : goal.returns
returns c = frame_begins_no_other
