use Rattle.std.proofs.Common.{[], ◌∷◌}
use Rattle.deal_index.specs.declared.question.CredentialDeed.TheVariants.{ListsLms, GivesLms, TakesKey}
use Rattle.deal_index.specs.declared.question.Question.TheVariants.{Named}
use Rattle.deal_index.proofs.NoteLemmas.{noted_more}
use Rattle.deal_index.proofs.notes.note_lms.Goals as goal

pub returns-clause-notes : goal.returns-clause-notes
returns-clause-notes c =
    let given = Named GivesLms c.args.kid in
    let taken = Named TakesKey c.args.kid in
    noted_more (Named ListsLms c.args.kid) (given ∷ taken ∷ []) c.args.place c.args.firsts.now c.note.new.firsts c.note-3.new.firsts c.note.ensures.notes
    (noted_more given (taken ∷ []) c.args.place c.note.new.firsts c.note-2.new.firsts c.note-3.new.firsts c.note-2.ensures.notes c.note-3.ensures.notes)
