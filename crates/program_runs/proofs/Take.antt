-- A run of take as a visit: it answers the message of the input, or says why it doesn't.
use Rattle.std.proofs.Common.{◌≡◌, ◌≢◌, ℕ, zero, suc, List, [], ◌∷◌, ◌++◌, length, Option, Some, None, Ok, refl, sym, ap, subst, ◌∙◌, inl, inr}
use Rattle.std.specs.Prelude.{IfSome}
use Rattle.std.proofs.lemmas.List.{append-nil}
use Rattle.std.proofs.lemmas.Option.{none-some, same_Some}
use Rattle.cmp_ports.specs.declared.disk.Disk.{Ghosts}
use Rattle.cmp_ports.specs.declared.note.Note.{Note}
use Rattle.cmp_ports.specs.declared.note.Outcome.{Outcome}
use Rattle.cmp_ports.specs.declared.note.Outcome.TheVariants as outcome
use Rattle.deal_changes.specs.declared.change.Change.{Change}
use Rattle.deal_changes.specs.declared.change.Settings.{Settings}
use Rattle.deal_model.specs.Views.{History, settings_of}
use Rattle.deal_table.specs.History.{event_time}
use Rattle.deal_table.specs.Table.{Decision, Makes, Repeats, Refuses, Asks}
use Rattle.reply_maker.specs.Keys.{Agrees}
use Rattle.reply_maker.specs.Replies.{Replier, replier_of}
use Rattle.reply_maker.specs.declared.key_file.KeyFault.TheVariants as keys
use Rattle.front.specs.Answers.{after, IsOutcome, IsAnswered, IsFailure}
use Rattle.front.specs.Answers as front
use Rattle.letter_laws.specs.Laws.{HasLetter}
use Rattle.signed_texts.specs.Laws.{Stands, authority}
use Rattle.one_history.specs.Keys as own
use Rattle.one_history.specs.Visits.{Ending, Holding, Visit}
use Rattle.one_history.specs.Causes.{Cause, Message, Answer, IsToldBy, IsAnswerOf, Asked}
use Rattle.one_history.specs.Headline.{MayCause}
use Rattle.cmpca_tool.specs.Changes.{run_of, IsUnchanged}
use Rattle.cmpca_tool.specs.Deeds.{IsCutShort}
use Rattle.cmpca_tool.specs.Mounts.{IsAnswer}
use Rattle.cmpca_tool.specs.Sources.{Devices}
use Rattle.cmpca_tool.specs.Takes.{message_in, replier_at, IsOwnFile, Replies, Fails, RunsOut, Ends, EndsUndrawn, EndsBy, Takes, IsTaken, IsUnread, IsTakenRun, IsTakeReply}
use Rattle.cmpca_tool.specs.declared.status.Status.{Status}
use Rattle.cmpca_tool.specs.declared.status.Status.TheVariants as status
use Rattle.cmpca_tool.specs.declared.words.Command.TheVariants.{Take}
use Rattle.program_runs.specs.Runs.{AreCauses, IsAnswerTo, IsUnanswered, AreAnswers, IsRun}
use Rattle.program_runs.proofs.Changed.{IsVisited, changed}
use Rattle.program_runs.proofs.Spared.{spared_run}

-- ---- why no message is answered

short_unanswered : (Failed : Type 0) (ends : Status) (text : List ℕ) → IsCutShort Failed ends text → IsUnanswered ends text
short_unanswered Failed status.ReadFault text short = inr (keys.ReadFault, refl, short.1)
short_unanswered Failed status.NoMemory text short = inr (keys.NoMemory, refl, short)
short_unanswered Failed status.Done text short = absurd short
short_unanswered Failed status.Refused text short = absurd short
short_unanswered Failed status.Usage text short = absurd short
short_unanswered Failed status.WriteFault text short = absurd short
short_unanswered Failed status.DiskFault text short = absurd short
short_unanswered Failed (status.Damaged at) text short = absurd short
short_unanswered Failed status.NotFounded text short = absurd short
short_unanswered Failed (status.KeyMismatch file journal) text short = absurd short
short_unanswered Failed status.BadKeyFile text short = absurd short

unread_unanswered : (devices : Devices) (key : List ℕ) (h : History) (ends : Status) (text : List ℕ) → IsUnread devices key h ends text → IsUnanswered ends text
unread_unanswered devices key h ends text (inl fault) = inr (fault.0.fault, fault.0.ends, fault.0.says)
unread_unanswered devices key h ends text (inr short) = short_unanswered devices.input.failed ends text short.1

-- ---- the settings stay

settings_behind : (h : History) (c : Change) → h ≢ [] → settings_of (h ++ c ∷ []) ≡ settings_of h
settings_behind [] c some = absurd (some refl)
settings_behind (x ∷ h) c some = refl

settings_after : (h : History) (what : Decision) → h ≢ [] → settings_of (after h what) ≡ settings_of h
settings_after h (Makes c) some = settings_behind h c some
settings_after h (Repeats place) some = refl
settings_after h (Refuses fail to) some = refl
settings_after h (Asks place) some = refl

-- ---- the answer

-- what is noted of a decision that is answered
abbrev outcome_of : Decision → Outcome
outcome_of (Makes c) = outcome.Done
outcome_of (Repeats place) = outcome.Again
outcome_of (Refuses fail to) = outcome.Refused fail
outcome_of (Asks place) = outcome.Again

-- the answers of a run from this history to that one: they are right, and are what the text and the status tell
record AreGiven (input key : List ℕ) (h g : History) (ends : Status) (text : List ℕ) (answers : List Answer) : Type 0 where
  right : (a : Answer) → Stands a answers → IsAnswerOf h g a
  told : AreAnswers input key ends text (Some Take) answers

one_of : (a b : Answer) → Stands b (a ∷ []) → a ≡ b
one_of a b (zero, is) = same_Some a b is
one_of a b (suc i, is) = absurd (none-some b is)

one_given : (input key : List ℕ) (h g : History) (ends : Status) (text : List ℕ) (a : Answer) → IsAnswerTo input key text a → IsAnswerOf h g a → AreGiven input key h g ends text (a ∷ [])
one_given input key h g ends text a to is = record { right = λ b stands. subst (λ (x : Answer). IsAnswerOf h g x) (one_of a b stands) is; told = inl (a, to, refl) }

none_given : (input key : List ℕ) (h g : History) (ends : Status) (text : List ℕ) → IsUnanswered ends text → AreGiven input key h g ends text []
none_given input key h g ends text why = record { right = λ b stands. absurd (none-some b stands.1); told = inr (why, refl) }

-- the file is the own one of each history with the same settings
own_file : (key : List ℕ) (h g : History) → settings_of g ≡ settings_of h → IsOwnFile key h → own.IsOwnFile key g
own_file key h g same is = record { form = is.form; agrees = subst (λ (s : Settings). Agrees key s) (sym same) is.agrees }

-- ---- a decision is answered

abbrev note_of : History → ℕ → List ℕ → Decision → Note
note_of h now w what = record { place = length (after h what); time = event_time h now; words = w; outcome = outcome_of what }

outcome_is : (k : Replier) (b : List ℕ) (h : History) (now : ℕ) (w text : List ℕ) (what : Decision) → front.IsAnswer k b h now w what text → IsOutcome what (outcome_of what)
outcome_is k b h now w text (Makes c) says = refl
outcome_is k b h now w text (Repeats place) says = refl
outcome_is k b h now w text (Refuses fail to) says = refl
outcome_is k b h now w text (Asks place) says = says

replied : (k : Replier) (b : List ℕ) (now : ℕ) (w : List ℕ) (h : History) (ends : Status) (text : List ℕ) (g : History) (r : Replies k b now w h ends text g) → IsAnswered k b h g now w (note_of h now w r.what) text
replied k b now w h ends text g r = record {
  before = h;
  what = r.what;
  begun = ([], sym (append-nil h));
  upto = ([], r.grown ∙ sym (append-nil (after h r.what)));
  decided = r.decided;
  outcome = outcome_is k b h now w text r.what r.says;
  place = refl;
  time = refl;
  words = refl;
  answer = r.says;
}

-- ---- a device failed

abbrev failure_of : History → ℕ → Note
failure_of h now = record { place = length h; time = event_time h now; words = []; outcome = outcome.SystemFailure }

failed : (k : Replier) (b : List ℕ) (now : ℕ) (h : History) (text : List ℕ) (g : History) → Fails k b now h text g → IsFailure k b h g now (failure_of h now) text
failed k b now h text g f = record {
  known = h;
  begun = ([], sym (append-nil h));
  upto = ([], f.same ∙ sym (append-nil h));
  outcome = refl;
  place = refl;
  time = refl;
  answer = f.says;
}

-- ---- the answers of the run

module _ (input key : List ℕ) (now : ℕ) (h : History) (some : h ≢ []) (letter : HasLetter (message_in input)) (file : IsOwnFile key h) (text : List ℕ) (g : History) where
  abbrev Given : Status → Type 0
  Given ends = (answers : List Answer) × AreGiven input key h g ends text answers

  abbrev answer_with : Option (List ℕ) → Note → Answer
  answer_with draw note = record { key = key; octets = message_in input; now = now; words = draw; note = note; reply = text }

  given : (ends : Status) (draw : Option (List ℕ)) (note : Note) → IsAnswerOf h g (answer_with draw note) → Given ends
  given ends draw note is = (answer_with draw note ∷ [], one_given input key h g ends text (answer_with draw note) (record { key = refl; octets = refl; reply = refl }) is)

  told_reply : (w : List ℕ) (what : Decision) → IsAnswered (authority key g) (message_in input) h g now w (note_of h now w what) text → IsToldBy h g (answer_with (Some w) (note_of h now w what)) (Some w) (outcome_of what)
  told_reply w (Makes c) is = is
  told_reply w (Repeats place) is = is
  told_reply w (Refuses fail to) is = is
  told_reply w (Asks place) is = is

  reply_given : (w : List ℕ) (ends : Status) → Replies (replier_at key h) (message_in input) now w h ends text g → Given ends
  reply_given w ends r =
      let same : settings_of g ≡ settings_of h = ap settings_of r.grown ∙ settings_after h r.what some in
      given ends (Some w) (note_of h now w r.what) (record {
        own = own_file key h g same file;
        letter = letter;
        told = told_reply w r.what (subst (λ (s : Settings). IsAnswered (replier_of key s) (message_in input) h g now w (note_of h now w r.what) text) (sym same) (replied (replier_at key h) (message_in input) now w h ends text g r));
      })

  told_failure : (draw : Option (List ℕ)) → IsFailure (authority key g) (message_in input) h g now (failure_of h now) text → IsToldBy h g (answer_with draw (failure_of h now)) draw outcome.SystemFailure
  told_failure None is = is
  told_failure (Some w) is = is

  failure_given : (draw : Option (List ℕ)) (ends : Status) → Fails (replier_at key h) (message_in input) now h text g → Given ends
  failure_given draw ends f =
      let same : settings_of g ≡ settings_of h = ap settings_of f.same in
      given ends draw (failure_of h now) (record {
        own = own_file key h g same file;
        letter = letter;
        told = told_failure draw (subst (λ (s : Settings). IsFailure (replier_of key s) (message_in input) h g now (failure_of h now) text) (sym same) (failed (replier_at key h) (message_in input) now h text g f));
      })

  no_memory : (Own : Change → Type 0) → RunsOut Own h text g → Given status.NoMemory
  no_memory Own out = ([], none_given input key h g status.NoMemory text (inr (keys.NoMemory, refl, out.says)))

  drawn_given : (w : List ℕ) (ends : Status) → Ends (replier_at key h) (message_in input) now w h ends text g → Given ends
  drawn_given w status.Done r = reply_given w status.Done r
  drawn_given w status.Refused r = reply_given w status.Refused r
  drawn_given w status.DiskFault f = failure_given (Some w) status.DiskFault f
  drawn_given w status.NoMemory out = no_memory _ out
  drawn_given w status.ReadFault r = absurd r
  drawn_given w status.Usage r = absurd r
  drawn_given w status.WriteFault r = absurd r
  drawn_given w (status.Damaged at) r = absurd r
  drawn_given w status.NotFounded r = absurd r
  drawn_given w (status.KeyMismatch of journal) r = absurd r
  drawn_given w status.BadKeyFile r = absurd r

  undrawn_given : (ends : Status) → EndsUndrawn (replier_at key h) (message_in input) now h ends text g → Given ends
  undrawn_given status.ReadFault f = failure_given None status.ReadFault f
  undrawn_given status.NoMemory out = no_memory _ out
  undrawn_given status.Done r = absurd r
  undrawn_given status.Refused r = absurd r
  undrawn_given status.DiskFault r = absurd r
  undrawn_given status.Usage r = absurd r
  undrawn_given status.WriteFault r = absurd r
  undrawn_given (status.Damaged at) r = absurd r
  undrawn_given status.NotFounded r = absurd r
  undrawn_given (status.KeyMismatch of journal) r = absurd r
  undrawn_given status.BadKeyFile r = absurd r

  given_by : (draw : Option (List ℕ)) (ends : Status) → EndsBy (replier_at key h) (message_in input) now draw h ends text g → Given ends
  given_by None ends e = undrawn_given ends e
  given_by (Some w) ends e = drawn_given w ends e

-- ---- its causes

abbrev causes_of : List ℕ → List ℕ → ℕ → Option (List ℕ) → List (Cause × ℕ)
causes_of input key now None = []
causes_of input key now (Some w) = (Message key (message_in input) w, now) ∷ []

are_causes : (IsReading : ℕ → Type 0) (IsDraw : Option (List ℕ) → Type 0) (input key : List ℕ) (now : ℕ) (draw : Option (List ℕ)) → IsReading now → IsDraw draw → AreCauses IsReading IsDraw input key (Some Take) (causes_of input key now draw)
are_causes IsReading IsDraw input key now None reading drawn = inl refl
are_causes IsReading IsDraw input key now (Some w) reading drawn = inr (now, w, reading, drawn, refl)

abbrev asked_to_take : List ℕ → List ℕ → ℕ → Option (List ℕ) → List Answer → Asked
asked_to_take input key now draw answers = record { causes = causes_of input key now draw; answers = answers }

may_take : (input key : List ℕ) (now : ℕ) (draw : Option (List ℕ)) (answers : List Answer) (h : History) (c : Change) → HasLetter (message_in input) → IsOwnFile key h → IsTaken key input now draw h c → MayCause (asked_to_take input key now draw answers) h c
may_take input key now None answers h c letter file taken = absurd taken
may_take input key now (Some w) answers h c letter file taken = ((Message key (message_in input) w, now), (0, refl), (letter, own_file key h h refl file, taken))

-- ---- the run

same_held : (h k : History) → Holding h ≡ Holding k → h ≡ k
same_held h k e = cc

module _ {D : Type 0} (g : Ghosts D) (old new : D) (IsReading : ℕ → Type 0) (IsDraw : Option (List ℕ) → Type 0) (input key : List ℕ) (ends : Status) (text : List ℕ) (ending : Ending) (content : List ℕ) (tells : g.content old ≡ Some content) where
  abbrev pub TakeVisits : Type 0
  TakeVisits = IsRun g old new IsReading IsDraw (Some Take) input key ends text ending

  unanswered : IsUnchanged (run_of g.content g.images g.moment g.left_since old new) → IsUnanswered ends text → TakeVisits
  unanswered same why = spared_run g old new IsReading IsDraw (Some Take) input key ends text ending content [] tells same (inl refl) (inr (why, refl)) tt tt

  visited : (now : ℕ) (draw : Option (List ℕ)) (before after : History) → IsReading now → IsDraw draw → (answers : List Answer) → AreGiven input key before after ends text answers
      → (v : Visit D Asked) → IsVisited g old new (asked_to_take input key now draw answers) ending before after v → TakeVisits
  visited now draw before after reading drawn answers given v i = record {
    visit = v;
    from = i.from;
    to = i.to;
    ends = i.ends;
    is = i.is;
    found = λ a stands. (before, i.found);
    right = λ k a found stands. subst (λ (h : History). IsAnswerOf h (h ++ v.made) a) (same_held before k (sym i.found ∙ found))
        (subst (λ (h : History). IsAnswerOf before h a) (sym i.made) (given.right a (subst (λ (x : Asked). Stands a x.answers) i.asks stands)));
    causes = subst (λ (x : Asked). AreCauses IsReading IsDraw input key (Some Take) x.causes) (sym i.asks) (are_causes IsReading IsDraw input key now draw reading drawn);
    answers = subst (λ (x : Asked). AreAnswers input key ends text (Some Take) x.answers) (sym i.asks) given.told;
    acknowledged = tt;
    shown = tt;
  }

  taken : (devices : Devices) → IsTakenRun (run_of g.content g.images g.moment g.left_since old new) devices IsReading IsDraw key input ends text → TakeVisits
  taken devices t =
      let x = t.changed in
      let mounted : IsAnswer content (Ok x.before) = subst (λ (o : Option (List ℕ)). IfSome o (λ f. IsAnswer f (Ok x.before))) tells x.mounted in
      let r = given_by input key t.now x.before mounted.holds.2.0 t.letter x.acts.own text x.after t.draw ends x.acts.ends in
      let v = changed g old new (Takes key input t.now t.draw) (IsTaken key input t.now t.draw) ends text (asked_to_take input key t.now t.draw r.0) ending content tells x (λ c own. may_take input key t.now t.draw r.0 x.before c t.letter x.acts.own own) in
      visited t.now t.draw x.before x.after t.reading t.drawn r.0 r.1 v.0 v.1

  pub take_run : (devices : Devices) → IsTakeReply (run_of g.content g.images g.moment g.left_since old new) devices IsReading IsDraw input key ends text → TakeVisits
  take_run devices (inl unused) = unanswered unused.unchanged (inl (unused.fault.fault, unused.fault.ends, unused.fault.says))
  take_run devices (inr (inl untaken)) = unanswered untaken.0.unchanged (unread_unanswered devices key untaken.0.history ends text untaken.0.cause)
  take_run devices (inr (inr t)) = taken devices t
