-- A session: the messages of a stream, each answered in its turn over one history, and what is written to the stream.
use Rattle.std.specs.Prelude.{◌≡◌, ◌≢◌, ℕ, List, length, map, Option, Some, None, IfSome}
use Rattle.cmp_links.specs.declared.end.EndCause.{EndCause}
use Rattle.cmp_links.specs.declared.end.EndCause.TheVariants.{NoMemory, Unanswered}
use Rattle.cmp_links.specs.declared.end.SessionEnd.{SessionEnd}
use Rattle.deal_model.specs.Views.{History}
use Rattle.deal_table.specs.History.{Begins}
use Rattle.reply_maker.specs.Replies.{Replier}
use Rattle.http_wire.specs.Sessions.{AreAsked, IsWritten}
use Rattle.sessions.specs.Events.{Event, Lost, exchange_of, lost_request, readings_of, draws_of, AreNoted, last_place, IsLost}

-- a message gets no reply only for want of memory
abbrev pub IsLostBy : EndCause → Option Lost → Type 0
IsLostBy cause None = cause ≢ Unanswered
IsLostBy cause (Some x) = cause ≡ NoMemory

-- The session of these events over the history h, which begins with h0, that what answered knew as the session began. left is what the
-- stream had left then, before and after what had been written to it, and faults and now its faults.
pub record IsSession (k : Replier) (h0 h : History) (left before after : Option (List ℕ)) (faults now : ℕ) (readings : List ℕ) (draws : List (Option (List ℕ))) (end : SessionEnd) (events : List Event) (lost : Option Lost) : Type 0 where
  pub begun : Begins h0 h
  pub notes : end.notes ≡ map (λ x. x.note) events
  pub noted : AreNoted k h (length h0) events
  pub ends : IsLostBy end.cause lost
  pub unanswered : IfSome lost (IsLost k h (last_place (length h0) events))
  pub read : readings ≡ readings_of events lost
  pub drew : draws ≡ draws_of events lost
  pub asked : IfSome left (λ all. AreAsked all (map exchange_of events) (lost_request lost) end.cause)
  pub written : IsWritten left (map exchange_of events) end.cause before after faults now

-- A session: there are such events.
abbrev pub Session : Replier → History → History → Option (List ℕ) → Option (List ℕ) → Option (List ℕ) → ℕ → ℕ → List ℕ → List (Option (List ℕ)) → SessionEnd → Type 0
Session k h0 h left before after faults now readings draws end = (events : List Event) × (lost : Option Lost) × IsSession k h0 h left before after faults now readings draws end events lost

-- a session over a history is one over each that begins with it
abbrev pub SessionsStay : Type 0
SessionsStay = (k : Replier) (h0 h more : History) (left before after : Option (List ℕ)) (faults now : ℕ) (readings : List ℕ) (draws : List (Option (List ℕ))) (end : SessionEnd)
    → Begins h more → Session k h0 h left before after faults now readings draws end → Session k h0 more left before after faults now readings draws end

-- and over each that the known one begins with
abbrev pub SessionsBeginSooner : Type 0
SessionsBeginSooner = (k : Replier) (h0 h less : History) (left before after : Option (List ℕ)) (faults now : ℕ) (readings : List ℕ) (draws : List (Option (List ℕ))) (end : SessionEnd)
    → Begins less h0 → Session k h0 h left before after faults now readings draws end → Session k less h left before after faults now readings draws end
