-- An answer of a history is that of each later one.
use Rattle.std.proofs.Common.{◌≡◌, ◌≢◌, ℕ, List, [], ◌∷◌, ◌++◌, Option, Some, None, refl, sym, ap, subst, ◌∙◌}
use Rattle.cmp_ports.specs.declared.note.Note.{Note}
use Rattle.cmp_ports.specs.declared.note.Outcome.{Outcome}
use Rattle.cmp_ports.specs.declared.note.Outcome.TheVariants as outcome
use Rattle.deal_changes.specs.declared.change.Settings.{Settings}
use Rattle.deal_model.specs.Views.{History, settings_of}
use Rattle.deal_table.specs.History.{Begins}
use Rattle.reply_maker.specs.Keys.{Agrees}
use Rattle.reply_maker.specs.Replies.{Replier, replier_of}
use Rattle.front.specs.Answers.{after, IsAnswered, IsFailure}
use Rattle.signed_texts.specs.Laws.{authority}
use Rattle.one_history.specs.Causes.{Answer, IsToldBy, IsAnswerOf}
use Rattle.one_history.proofs.Made.{begins_then}

settings_stay : (h more : History) → h ≢ [] → settings_of (h ++ more) ≡ settings_of h
settings_stay [] more some = absurd (some refl)
settings_stay (c ∷ h) more some = refl

pub some_more : (h more : History) → h ≢ [] → h ++ more ≢ []
some_more [] more some e = absurd (some refl)
some_more (c ∷ h) more some e = cc

settings_later : (h k : History) → h ≢ [] → Begins h k → settings_of k ≡ settings_of h
settings_later h k some later = ap settings_of later.1 ∙ settings_stay h later.0 some

failure_later : (k : Replier) (b : List ℕ) (old new later : History) (now : ℕ) (note : Note) (reply : List ℕ) → Begins new later → IsFailure k b old new now note reply → IsFailure k b old later now note reply
failure_later k b old new later now note reply grown f = record {
  known = f.known;
  begun = f.begun;
  upto = begins_then f.known new later f.upto grown;
  outcome = f.outcome;
  place = f.place;
  time = f.time;
  answer = f.answer;
}

answered_later : (k : Replier) (b : List ℕ) (old new later : History) (now : ℕ) (w : List ℕ) (note : Note) (reply : List ℕ) → Begins new later → IsAnswered k b old new now w note reply → IsAnswered k b old later now w note reply
answered_later k b old new later now w note reply grown f = record {
  before = f.before;
  what = f.what;
  begun = f.begun;
  upto = begins_then (after f.before f.what) new later f.upto grown;
  decided = f.decided;
  outcome = f.outcome;
  place = f.place;
  time = f.time;
  words = f.words;
  answer = f.answer;
}

module _ (old new later : History) (a : Answer) (grown : Begins new later) (same : authority a.key later ≡ authority a.key new) where
  fails : IsFailure (authority a.key new) a.octets old new a.now a.note a.reply → IsFailure (authority a.key later) a.octets old later a.now a.note a.reply
  fails f = subst (λ (k : Replier). IsFailure k a.octets old later a.now a.note a.reply) (sym same) (failure_later (authority a.key new) a.octets old new later a.now a.note a.reply grown f)

  answers : (w : List ℕ) → IsAnswered (authority a.key new) a.octets old new a.now w a.note a.reply → IsAnswered (authority a.key later) a.octets old later a.now w a.note a.reply
  answers w f = subst (λ (k : Replier). IsAnswered k a.octets old later a.now w a.note a.reply) (sym same) (answered_later (authority a.key new) a.octets old new later a.now w a.note a.reply grown f)

  told : (w : Option (List ℕ)) (o : Outcome) → IsToldBy old new a w o → IsToldBy old later a w o
  told None o f = fails f
  told (Some w) outcome.SystemFailure f = fails f
  told (Some w) outcome.Done f = answers w f
  told (Some w) outcome.Again f = answers w f
  told (Some w) (outcome.Refused fail) f = answers w f

pub answer_later : (old new later : History) (a : Answer) → new ≢ [] → Begins new later → IsAnswerOf old new a → IsAnswerOf old later a
answer_later old new later a some grown right =
    let same : settings_of later ≡ settings_of new = settings_later new later some grown in
    record {
      own = record { form = right.own.form; agrees = subst (λ (s : Settings). Agrees a.key s) (sym same) right.own.agrees };
      letter = right.letter;
      told = told old new later a grown (ap (λ (s : Settings). replier_of a.key s) same) a.words a.note.outcome right.told;
    }
