-- What a run was asked: what each change that it may make comes from, and the answers that it gives.
use Rattle.std.specs.Prelude.{◌≡◌, ◌⊎◌, ℕ, List, [], Option, Some, None, Ok}
use Rattle.cmp_ports.specs.declared.note.Note.{Note}
use Rattle.cmp_ports.specs.declared.note.Outcome.{Outcome}
use Rattle.cmp_ports.specs.declared.note.Outcome.TheVariants as outcome
use Rattle.cmp_ports.specs.declared.order.Order.{Order}
use Rattle.deal_changes.specs.declared.change.Kind.{Kind}
use Rattle.deal_changes.specs.declared.change.Credential.{Credential}
use Rattle.deal_changes.specs.declared.change.Settings.{Settings}
use Rattle.deal_changes.specs.declared.change.Change.{Change}
use Rattle.deal_model.specs.Views.{History}
use Rattle.deal_table.specs.History.{Receipted, receipt_at, event_time}
use Rattle.registry.specs.Settings.{settings_in}
use Rattle.registry.specs.Credentials.{credentials_in}
use Rattle.desk.specs.Due.{IsLapse}
use Rattle.desk.specs.Calls.{IsOrder}
use Rattle.desk.specs.Founded.{founding}
use Rattle.desk.specs.Listings.{IsEnlisting, IsDismissal}
use Rattle.reply_maker.specs.KeyFile.{IsKeyFile}
use Rattle.reply_maker.specs.Replies.{reply_of}
use Rattle.front.specs.Answers.{IsOwn, IsAnswered, IsFailure}
use Rattle.letter_laws.specs.Laws.{HasLetter}
use Rattle.signed_texts.specs.Texts.{SignedText, texts_of}
use Rattle.signed_texts.specs.Laws.{Stands, authority}
use Rattle.one_history.specs.Keys.{with_keys, IsOwnFile}

-- ---- causes

-- What a change comes from: a key file and a file of settings, to found the service; a file of credentials; the dismissal of one; an
-- order on a held request; a deadline; the octets of a message, under a key file, with the words that were drawn.
pub data Cause : Type 0 where
  Founding : (key settings : List ℕ) → Cause
  Listing : (file : List ℕ) → Cause
  Dismissal : Kind → List ℕ → Cause
  Commanded : Order → Cause
  Deadline : Cause
  Message : (key octets words : List ℕ) → Cause

-- Behind this history the change comes of the cause, at this reading of the clock. The octets of a message make the change that the
-- table of decisions makes of them, under the key file of the history.
abbrev pub IsCausedBy : Cause → ℕ → History → Change → Type 0
IsCausedBy (Founding key file) now h c = (h ≡ []) × IsKeyFile key × ((s : Settings) × (settings_in file ≡ Ok s) × (c ≡ founding (with_keys key s) now))
IsCausedBy (Listing file) now h c = (list : List Credential) × (credentials_in file ≡ Ok list) × IsEnlisting list (event_time h now) c
IsCausedBy (Dismissal kind kid) now h c = IsDismissal kind kid (event_time h now) c
IsCausedBy (Commanded order) now h c = IsOrder order (event_time h now) c
IsCausedBy Deadline now h c = IsLapse h (event_time h now) c
IsCausedBy (Message key octets words) now h c = HasLetter octets × IsOwnFile key h × IsOwn (authority key h) octets h now words c

-- ---- answers

-- An answer to the octets of a message, under a key file: the clock's reading, the words that were drawn, none where the draw failed,
-- what is noted, and the reply.
pub record Answer : Type 0 where
  pub key : List ℕ
  pub octets : List ℕ
  pub now : ℕ
  pub words : Option (List ℕ)
  pub note : Note
  pub reply : List ℕ

-- the octets were decided over a history between the old one and the new one, and answered so; or a device of the service failed
abbrev pub IsToldBy : History → History → Answer → Option (List ℕ) → Outcome → Type 0
IsToldBy old new a None o = IsFailure (authority a.key new) a.octets old new a.now a.note a.reply
IsToldBy old new a (Some w) outcome.SystemFailure = IsFailure (authority a.key new) a.octets old new a.now a.note a.reply
IsToldBy old new a (Some w) outcome.Done = IsAnswered (authority a.key new) a.octets old new a.now w a.note a.reply
IsToldBy old new a (Some w) outcome.Again = IsAnswered (authority a.key new) a.octets old new a.now w a.note a.reply
IsToldBy old new a (Some w) (outcome.Refused fail) = IsAnswered (authority a.key new) a.octets old new a.now w a.note a.reply

-- The answer is the history's, under its own key file; or it says that a device failed. The octets have a letter, so this says
-- something of them.
pub record IsAnswerOf (old new : History) (a : Answer) : Type 0 where
  pub own : IsOwnFile a.key new
  pub letter : HasLetter a.octets
  pub told : IsToldBy old new a a.words a.note.outcome

-- ---- what is handed out signed

-- The reply of the answer is that to a change of the history, and carries this text, signed by its leaf: the text is one of that
-- change, or of the first one, whose certificate of the key of replies each signed reply brings along.
pub record HandsOut (h : History) (a : Answer) (e : SignedText) : Type 0 where
  pub place : ℕ
  pub receipt : Receipted
  pub stands : receipt_at h place ≡ Some receipt
  pub sealed : a.reply ≡ reply_of (authority a.key h) receipt
  pub among : Stands e (texts_of (authority a.key h) h)
  pub for : (e.place ≡ place) ⊎ (e.place ≡ 1)

-- ---- all that a run was asked

-- its causes, each with its reading of the clock, and the answers that it gives
pub record Asked : Type 0 where
  pub causes : List (Cause × ℕ)
  pub answers : List Answer
