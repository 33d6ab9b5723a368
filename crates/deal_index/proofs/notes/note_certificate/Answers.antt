use Rattle.std.proofs.Common.{[], ◌∷◌}
use Rattle.deal_index.specs.declared.question.Question.TheVariants.{Message}
use Rattle.deal_index.proofs.NoteLemmas.{noted_more}
use Rattle.deal_index.proofs.notes.note_certificate.Goals as goal

pub returns-clause-notes : goal.returns-clause-notes
returns-clause-notes c =
    let stamped = Message c.args.stamp.now.digest in
    noted_more c.args.deal (stamped ∷ c.args.certificate ∷ []) c.args.place c.args.firsts.now c.note.new.firsts c.note-3.new.firsts c.note.ensures.notes
    (noted_more stamped (c.args.certificate ∷ []) c.args.place c.note.new.firsts c.note-2.new.firsts c.note-3.new.firsts c.note-2.ensures.notes c.note-3.ensures.notes)
