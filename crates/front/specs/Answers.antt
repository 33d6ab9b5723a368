-- What is answered to the octets of a message, over the history in which it is decided.
--
-- In each word k is what the authority replies with, b the octets, now the clock's reading and w the words that were drawn.
use Rattle.std.specs.Prelude.{◌≡◌, ℕ, ◌&&◌, List, [], ◌∷◌, ◌++◌, length, Some, None}
use Rattle.cmp_values.specs.declared.fail_info.FailInfo.TheVariants.{SystemFailure}
use Rattle.cmp_ports.specs.declared.note.Note.{Note}
use Rattle.cmp_ports.specs.declared.note.Outcome.{Outcome}
use Rattle.cmp_ports.specs.declared.note.Outcome.TheVariants as outcome
use Rattle.deal_changes.specs.declared.change.Change.{Change}
use Rattle.deal_model.specs.Views.{History}
use Rattle.deal_table.specs.History.{Begins, Receipted, receipt_at, event_time}
use Rattle.deal_table.specs.Message.{Letter, is_nested, echo_of, echo_to}
use Rattle.deal_table.specs.Table.{Decision, Makes, Repeats, Refuses, Asks, decision}
use Rattle.intake.specs.Letter.{IsLetter}
use Rattle.reply_maker.specs.Refusals.{refusal_of}
use Rattle.reply_maker.specs.Replies.{Replier, reply_of, certificate_hash}

-- Something holds of the letter that the octets are, in which a certHash is compared with those of the authority's certificates.
abbrev pub ForLetter : Replier → List ℕ → (Letter → Type 0) → Type 0
ForLetter k b P = (l : Letter) → IsLetter (certificate_hash k) b l → P l

-- a decision, where a refusal of a message that nests no other one answers that message in any case
abbrev pub addressed : Letter → Decision → Decision
addressed l (Makes c) = Makes c
addressed l (Repeats place) = Repeats place
addressed l (Refuses fail to) = Refuses fail (record { outer = to.outer && is_nested l.message.body; guard = to.guard })
addressed l (Asks place) = Asks place

-- the table decides the octets so, over this history
abbrev pub IsDecision : Replier → List ℕ → History → ℕ → List ℕ → Decision → Type 0
IsDecision k b h now w d = ForLetter k b (λ l. addressed l (decision h l now w) ≡ addressed l d)

-- the octets make this change, over this history
abbrev pub IsOwn : Replier → List ℕ → History → ℕ → List ℕ → Change → Type 0
IsOwn k b h now w c = IsDecision k b h now w (Makes c)

-- the history after a decision: with the change behind it that was made
abbrev pub after : History → Decision → History
after h (Makes c) = h ++ c ∷ []
after h (Repeats place) = h
after h (Refuses fail to) = h
after h (Asks place) = h

-- the reply to the change at a place
pub record IsReplyAt (k : Replier) (h : History) (place : ℕ) (reply : List ℕ) : Type 0 where
  pub receipt : Receipted
  pub stands : receipt_at h place ≡ Some receipt
  pub sealed : reply ≡ reply_of k receipt

-- The answer to what was decided: the reply to the change, or to the earlier one; or the refusal, to the message that is about
-- something or to the nested one around it, under its sender's secret or under nothing.
abbrev pub IsAnswer : Replier → List ℕ → History → ℕ → List ℕ → Decision → List ℕ → Type 0
IsAnswer k b h now w (Makes c) reply = IsReplyAt k (h ++ c ∷ []) (length (h ++ c ∷ [])) reply
IsAnswer k b h now w (Repeats place) reply = IsReplyAt k h place reply
IsAnswer k b h now w (Refuses fail to) reply = ForLetter k b (λ l. reply ≡ refusal_of k.keys (echo_to l to.outer) fail to.guard (event_time h now) (Some w))
IsAnswer k b h now w (Asks place) reply = ⊥

-- what is noted of a decision
abbrev pub IsOutcome : Decision → Outcome → Type 0
IsOutcome (Makes c) o = o ≡ outcome.Done
IsOutcome (Repeats place) o = o ≡ outcome.Again
IsOutcome (Refuses fail to) o = o ≡ outcome.Refused fail
IsOutcome (Asks place) o = ⊥

-- The octets were decided over a history between the old and the new one, in which others may have made changes too, and
-- answered.
pub record IsAnswered (k : Replier) (b : List ℕ) (old new : History) (now : ℕ) (w : List ℕ) (note : Note) (reply : List ℕ) : Type 0 where
  pub before : History
  pub what : Decision
  pub begun : Begins old before
  pub upto : Begins (after before what) new
  pub decided : IsDecision k b before now w what
  pub outcome : IsOutcome what note.outcome
  pub place : note.place ≡ length (after before what)
  pub time : note.time ≡ event_time before now
  pub words : note.words ≡ w
  pub answer : IsAnswer k b before now w what reply

-- A device of the service failed: the message itself, which may nest another one, is refused for that, with no words and under
-- nothing. The place and the time are those of a history between the old and the new one.
pub record IsFailure (k : Replier) (b : List ℕ) (old new : History) (now : ℕ) (note : Note) (reply : List ℕ) : Type 0 where
  pub known : History
  pub begun : Begins old known
  pub upto : Begins known new
  pub outcome : note.outcome ≡ outcome.SystemFailure
  pub place : note.place ≡ length known
  pub time : note.time ≡ event_time known now
  pub answer : ForLetter k b (λ l. reply ≡ refusal_of k.keys (echo_of l.message.header) SystemFailure None (event_time known now) None)

-- The octets made their change, over a history between the old and the new one, and weren't answered.
pub record IsMade (k : Replier) (b : List ℕ) (old new : History) (now : ℕ) (w : List ℕ) : Type 0 where
  pub before : History
  pub change : Change
  pub begun : Begins old before
  pub upto : Begins (before ++ change ∷ []) new
  pub decided : IsOwn k b before now w change
