-- No leaf of a key signs two texts that are handed out under one key file.
use Rattle.std.proofs.Common.{◌≡◌, ℕ, List, Some, sym, ap, subst, ◌∙◌, inl}
use Rattle.std.specs.Prelude.{slice_get}
use Rattle.std.proofs.lemmas.Option.{same_Some}
use Rattle.deal_model.specs.declared.states.Key.TheVariants.{Reply}
use Rattle.deal_model.specs.Views.{History}
use Rattle.deal_table.specs.History.{Receipted, receipt_at}
use Rattle.reply_maker.specs.Replies.{reply_of}
use Rattle.signed_texts.specs.Texts.{SignedText, texts_of}
use Rattle.signed_texts.specs.Laws.{Stands, EachLeafOneText, IsSignedReply, authority}
use Rattle.one_history.specs.Causes.{Answer, HandsOut}

same_text : (texts : List SignedText) (e f : SignedText) → (is : Stands e texts) → (also : Stands f texts) → is.0 ≡ also.0 → e.text ≡ f.text
same_text texts e f is also at = ap (λ (x : SignedText). x.text) (same_Some e f (sym is.1 ∙ (ap (slice_get texts) at ∙ also.1)))

pub one_text : (h : History) (a b : Answer) (e f : SignedText) → EachLeafOneText (authority a.key h) h → HandsOut h a e → HandsOut h b f → a.key ≡ b.key → e.key ≡ f.key → e.leaf ≡ f.leaf → e.text ≡ f.text
one_text h a b e f once first second file key leaf =
    let texts : List SignedText = texts_of (authority a.key h) h in
    let also : Stands f texts = subst (λ (k : List ℕ). Stands f (texts_of (authority k h) h)) (sym file) second.among in
    same_text texts e f first.among also (once first.among.0 also.0 e f first.among.1 also.1 key leaf)

-- a signed reply hands out the text that it is signed by
pub handed : (h : History) (a : Answer) (place : ℕ) (r : Receipted) → receipt_at h place ≡ Some r → a.reply ≡ reply_of (authority a.key h) r → IsSignedReply a.key h place (reply_of (authority a.key h) r)
    → (e : SignedText) × HandsOut h a e × (e.key ≡ Reply) × (e.place ≡ place)
handed h a place r stands sealed signed = (signed.entry, record { place = place; receipt = r; stands = stands; sealed = sealed; among = signed.stands; for = inl signed.there }, signed.replies, signed.there)
