-- One step of a session: the next request is answered, or the session ends.
use Rattle.std.specs.Prelude.{◌≡◌, ◌≢◌, ◌⊎◌, ℕ, ◌-◌, Bool, List, [], ◌∷◌, ◌++◌, length, take, Option, Some, None, IfSome, IsSomeAnd, is_some, Result, Ok, Err}
use Rattle.std.specs.Io.KnownBytes.{Appends, Keeps}
use Rattle.cmp_ports.specs.Faults.{Rose}
use Rattle.cmp_ports.specs.Whole.{AppendsPrefix}
use Rattle.cmp_ports.specs.declared.note.Note.{Note}
use Rattle.cmp_ports.specs.declared.note.Answered.{Answered}
use Rattle.cmp_ports.specs.declared.note.Answered.TheVariants as answer
use Rattle.cmp_links.specs.declared.end.EndCause.{EndCause}
use Rattle.cmp_links.specs.declared.end.EndCause.TheVariants.{Closed, Asked, Rejected, Limit, ReadFault, WriteFault, Unanswered, NoMemory}
use Rattle.http_heads.specs.Requests.{Posted, IsRequest, IsRejected, ending_after}
use Rattle.http_wire.specs.Framing.{framed, refusal, unavailable}
use Rattle.http_wire.specs.Sessions.{Exchange, posted_of}

-- A session at a moment: the state of the answerer, the octets that come, those that were written, the faults of the stream, and what
-- was noted.
pub record Moment (A : Type 0) : Type 0 where
  pub state : A
  pub coming : Option (List ℕ)
  pub written : Option (List ℕ)
  pub faults : ℕ
  pub notes : List Note

abbrev pub moment : {A : Type 0} → A → Option (List ℕ) → Option (List ℕ) → ℕ → List Note → Moment A
moment state coming written faults notes = record { state = state; coming = coming; written = written; faults = faults; notes = notes }

-- the octets that come are this request and what comes behind it, where they are told
abbrev pub Asks : Option (List ℕ) → Option (List ℕ) → Posted → Type 0
Asks coming behind r = IfSome coming (λ all. IsSomeAnd behind (λ rest. IsRequest all r rest))

-- they begin with no request that is served
abbrev pub Turns : Option (List ℕ) → ℕ → Type 0
Turns coming status = IfSome coming (λ all. IsRejected all status)

-- the peer is told that there is no reply; less of it only where the stream failed
abbrev pub Excuses : Option (List ℕ) → Option (List ℕ) → ℕ → ℕ → Type 0
Excuses before after faults now = Appends before after unavailable ⊎ (AppendsPrefix before after unavailable × Rose faults now)

-- nobody was asked, and nothing noted
abbrev pub Rests : {A : Type 0} → Moment A → Moment A → Type 0
Rests old new = (new.state ≡ old.state) × (new.notes ≡ old.notes)

-- no call of the stream failed
abbrev pub RunsWell : {A : Type 0} → Moment A → Moment A → Type 0
RunsWell old new = new.faults ≡ old.faults

-- the refusal was written and ends the session; or some of it, and the stream failed; or memory ran out, and the peer is told that
abbrev pub IsTurned : ℕ → Option (List ℕ) → Option (List ℕ) → ℕ → ℕ → EndCause → Type 0
IsTurned status before after faults now (Rejected told) = (told ≡ status) × Appends before after (refusal status) × (now ≡ faults)
IsTurned status before after faults now WriteFault = AppendsPrefix before after (refusal status) × Rose faults now
IsTurned status before after faults now NoMemory = Excuses before after faults now
IsTurned status before after faults now Closed = ⊥
IsTurned status before after faults now Asked = ⊥
IsTurned status before after faults now Limit = ⊥
IsTurned status before after faults now ReadFault = ⊥
IsTurned status before after faults now Unanswered = ⊥

-- the reply is framed, and its note in the place that was kept; or the place is gone
abbrev pub IsFramed : List ℕ → Bool → Note → List Note → List Note → List ℕ → Result (Unit {0}) EndCause → Type 0
IsFramed reply last note old new text (Ok done) = (new ≡ take (length old - 1) old ++ note ∷ []) × (text ≡ framed 200 reply last)
IsFramed reply last note old new text (Err cause) = (new ≡ take (length old - 1) old) × (cause ≡ NoMemory)

module _ {A : Type 0} (answers : A → List ℕ → Answered → List ℕ → A → Type 0) where
  -- the request was answered with this reply, of which this was noted
  pub record IsReplied (a b : A) (request : List ℕ) (note : Note) (reply : List ℕ) (old new : List Note) : Type 0 where
    pub answered : answers a request (answer.Replied note) reply b
    pub noted : new ≡ old ++ note ∷ []

  -- it has no reply, for want of memory before the call or after it, or since what answers failed
  abbrev pub IsUnreplied : A → A → List ℕ → EndCause → Type 0
  IsUnreplied a b request Unanswered = answers a request answer.Failed [] b
  IsUnreplied a b request NoMemory = (b ≡ a) ⊎ ((end : Answered) × (reply : List ℕ) × (end ≢ answer.Failed) × answers a request end reply b)
  IsUnreplied a b request Closed = ⊥
  IsUnreplied a b request Asked = ⊥
  IsUnreplied a b request (Rejected status) = ⊥
  IsUnreplied a b request Limit = ⊥
  IsUnreplied a b request ReadFault = ⊥
  IsUnreplied a b request WriteFault = ⊥

  -- the reply stands framed in this text; or there is none, and nothing noted
  abbrev pub IsAnswer : A → A → List ℕ → Bool → List Note → List Note → List ℕ → Result (Unit {0}) EndCause → Type 0
  IsAnswer a b request last old new text (Ok done) = (note : Note) × (reply : List ℕ) × IsReplied a b request note reply old new × (text ≡ framed 200 reply last)
  IsAnswer a b request last old new text (Err cause) = IsUnreplied a b request cause × (new ≡ old)

  -- the reply was written whole
  pub record IsSent (old new : Moment A) (request : List ℕ) (last : Bool) (note : Note) (reply : List ℕ) : Type 0 where
    pub replied : IsReplied old.state new.state request note reply old.notes new.notes
    pub written : Appends old.written new.written (framed 200 reply last)
    pub well : RunsWell old new

  -- the write of the reply failed
  pub record IsCutOff (old new : Moment A) (request : List ℕ) (last : Bool) (note : Note) (reply : List ℕ) : Type 0 where
    pub replied : IsReplied old.state new.state request note reply old.notes new.notes
    pub written : AppendsPrefix old.written new.written (framed 200 reply last)
    pub fault : Rose old.faults new.faults

  -- there is no reply, and the peer is told so
  pub record IsExcused (old new : Moment A) (request : List ℕ) (cause : EndCause) : Type 0 where
    pub unreplied : IsUnreplied old.state new.state request cause
    pub noted : new.notes ≡ old.notes
    pub told : Excuses old.written new.written old.faults new.faults

  -- a request and what was written to it
  abbrev pub IsExchange : Moment A → Moment A → List ℕ → Bool → Result (Unit {0}) EndCause → Type 0
  IsExchange old new request last (Ok done) = (note : Note) × (reply : List ℕ) × IsSent old new request last note reply
  IsExchange old new request last (Err WriteFault) = (note : Note) × (reply : List ℕ) × IsCutOff old new request last note reply
  IsExchange old new request last (Err Unanswered) = IsExcused old new request Unanswered
  IsExchange old new request last (Err NoMemory) = IsExcused old new request NoMemory
  IsExchange old new request last (Err Closed) = ⊥
  IsExchange old new request last (Err Asked) = ⊥
  IsExchange old new request last (Err (Rejected status)) = ⊥
  IsExchange old new request last (Err Limit) = ⊥
  IsExchange old new request last (Err ReadFault) = ⊥

  -- the next request was answered, and the session ends behind it by this, or goes on
  abbrev pub Follows : ℕ → Moment A → Moment A → Option EndCause → Type 0
  Follows number old new ending =
      (x : Exchange) × Asks old.coming new.coming (posted_of x) × (ending_after number x.asks ≡ ending)
      × IsSent old new x.request (is_some ending) x.note x.reply

  -- the next request was answered, and the write of the reply failed
  abbrev pub BreaksReply : ℕ → Moment A → Moment A → Type 0
  BreaksReply number old new =
      (x : Exchange) × Asks old.coming new.coming (posted_of x)
      × IsCutOff old new x.request (is_some (ending_after number x.asks)) x.note x.reply

  -- what comes is turned away, and the write of that failed
  abbrev pub BreaksRefusal : Moment A → Moment A → Type 0
  BreaksRefusal old new =
      (status : ℕ) × Turns old.coming status × Rests old new × AppendsPrefix old.written new.written (refusal status) × Rose old.faults new.faults

  -- the next request got no reply
  abbrev pub BreaksRequest : Moment A → Moment A → EndCause → Type 0
  BreaksRequest old new cause = (r : Posted) × Asks old.coming new.coming r × IsExcused old new r.body cause

  -- the session ends, where the next request would be of this number
  abbrev pub EndsBy : ℕ → Moment A → Moment A → EndCause → Type 0
  EndsBy number old new Closed = IfSome old.coming (λ all. all ≡ []) × Rests old new × Keeps old.written new.written × RunsWell old new
  EndsBy number old new Asked = Follows number old new (Some Asked)
  EndsBy number old new Limit = Follows number old new (Some Limit)
  EndsBy number old new (Rejected status) = Turns old.coming status × Rests old new × Appends old.written new.written (refusal status) × RunsWell old new
  EndsBy number old new ReadFault = Rests old new × Keeps old.written new.written × Rose old.faults new.faults
  EndsBy number old new WriteFault = BreaksReply number old new ⊎ BreaksRefusal old new
  EndsBy number old new Unanswered = BreaksRequest old new Unanswered
  EndsBy number old new NoMemory = BreaksRequest old new NoMemory ⊎ (Rests old new × Excuses old.written new.written old.faults new.faults)

  -- how a step ends the session, where it does
  abbrev pub IsStep : ℕ → Moment A → Moment A → Option EndCause → Type 0
  IsStep number old new None = Follows number old new None
  IsStep number old new (Some cause) = EndsBy number old new cause
