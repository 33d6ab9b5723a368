use Rattle.std.proofs.Common.{[], ◌∷◌, List, ℕ, subst}
use Rattle.deal_model.specs.Keys.{key_id}
use Rattle.deal_index.specs.declared.question.CredentialDeed.TheVariants.{TakesKey}
use Rattle.deal_index.specs.declared.question.DealDeed.TheVariants.{Holds}
use Rattle.deal_index.specs.declared.question.Question.{Question}
use Rattle.deal_index.specs.declared.question.Question.TheVariants.{Deal, Message, Named}
use Rattle.deal_index.specs.Index.{Notes}
use Rattle.deal_index.proofs.NoteLemmas.{noted_then}
use Rattle.deal_index.proofs.notes.note_hold.Goals as goal

pub returns : goal.returns
returns c =
    let stamped = Message c.args.stamp.now.digest in
    let taken = Named TakesKey (key_id c.key_of.result.now) in
    subst (λ (key : List ℕ). Notes (Deal Holds c.args.stamp.now.tid ∷ stamped ∷ Named TakesKey (key_id key) ∷ []) c.args.place c.args.firsts.now c.note_key.new.firsts) c.key_of.ensures
    (subst (λ (q : Question). Notes (q ∷ stamped ∷ taken ∷ []) c.args.place c.args.firsts.now c.note_key.new.firsts) c.deal.ensures
    (noted_then (c.deal.result ∷ stamped ∷ []) (taken ∷ []) c.args.place c.args.firsts.now c.note_message.new.firsts c.note_key.new.firsts c.note_message.ensures.notes c.note_key.ensures.notes))
