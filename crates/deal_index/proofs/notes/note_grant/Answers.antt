use Rattle.std.proofs.Common.{[], ◌∷◌, subst}
use Rattle.deal_index.specs.declared.question.CertificateDeed.TheVariants.{Grants}
use Rattle.deal_index.specs.declared.question.Question.{Question}
use Rattle.deal_index.specs.declared.question.Question.TheVariants.{Certificate, Message}
use Rattle.deal_index.specs.Questions.{questions_of_granted}
use Rattle.deal_index.specs.Index.{Notes}
use Rattle.deal_index.proofs.NoteLemmas.{noted_then}
use Rattle.deal_index.proofs.notes.note_grant.Goals as goal

pub returns : goal.returns
returns c =
    let stamped = Message c.args.stamp.now.digest in
    let certificate = Certificate Grants c.args.serial in
    let granted = questions_of_granted c.args.spki.now in
    subst (λ (q : Question). Notes (q ∷ stamped ∷ certificate ∷ granted) c.args.place c.args.firsts.now c.note_granted.new.firsts) c.deal.ensures
    (noted_then (c.deal.result ∷ stamped ∷ certificate ∷ []) granted c.args.place c.args.firsts.now c.note_certificate.new.firsts c.note_granted.new.firsts c.note_certificate.ensures.notes c.note_granted.ensures.notes)
