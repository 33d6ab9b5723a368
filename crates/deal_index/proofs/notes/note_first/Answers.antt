use Rattle.deal_index.proofs.GrowLemmas.{firsts_grown}
use Rattle.deal_index.proofs.notes.note_first.Goals as goal

pub returns : goal.returns
returns c = λ h at firsts. firsts_grown h c.args.c.now c.args.place c.args.firsts.now c.note_change.new.firsts at firsts c.note_change.ensures
