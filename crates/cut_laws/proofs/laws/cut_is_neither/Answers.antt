use Rattle.cut_laws.proofs.CutLemmas.{cut_is_neither, left_message, left_frame}
use Rattle.cut_laws.proofs.laws.cut_is_neither.Goals as goal

pub returns-clause-neither : goal.returns-clause-neither
returns-clause-neither c = cut_is_neither

pub returns-clause-messages : goal.returns-clause-messages
returns-clause-messages c = left_message

pub returns-clause-frames : goal.returns-clause-frames
returns-clause-frames c = left_frame
