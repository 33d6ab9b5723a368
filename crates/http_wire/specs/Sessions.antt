-- A session over HTTP: the requests of a stream, each answered in its turn, and what is written (RFC 9112, 9.3; RFC 9811, 3).
use Rattle.std.specs.Prelude.{◌≡◌, ◌≢◌, ◌⊎◌, ℕ, suc, Bool, true, false, List, [], ◌∷◌, ◌++◌, length, take, map, Option, Some, None, IfSome, is_some}
use Rattle.std.specs.Io.KnownBytes.{Appends}
use Rattle.cmp_ports.specs.Faults.{Rose}
use Rattle.cmp_ports.specs.declared.note.Note.{Note}
use Rattle.cmp_ports.specs.declared.note.Answered.{Answered}
use Rattle.cmp_ports.specs.declared.note.Answered.TheVariants as answer
use Rattle.cmp_links.specs.declared.end.EndCause.{EndCause}
use Rattle.cmp_links.specs.declared.end.EndCause.TheVariants.{Closed, Asked, Rejected, Limit, ReadFault, WriteFault, Unanswered, NoMemory}
use Rattle.cmp_links.specs.declared.end.SessionEnd.{SessionEnd}
use Rattle.http_heads.specs.Requests.{Posted, IsRejected, ending_after, AreRequests, AreFirst}
use Rattle.http_wire.specs.Framing.{framed, refusal, unavailable}

-- a request that was answered: its octets, whether it asked for the end, what was noted, and the reply
pub record Exchange : Type 0 where
  pub request : List ℕ
  pub asks : Bool
  pub note : Note
  pub reply : List ℕ

-- the request of it
abbrev pub posted_of : Exchange → Posted
posted_of x = record { body = x.request; asks = x.asks }

-- what was noted of it
abbrev pub note_of : Exchange → Note
note_of x = x.note

-- one request, or none
abbrev pub lone : Option Posted → List Posted
lone None = []
lone (Some r) = r ∷ []

-- the reply to it, where it is of this number: the last of the session where it ends after it
abbrev pub reply_text : ℕ → Exchange → List ℕ
reply_text number x = framed 200 x.reply (is_some (ending_after number x.asks))

-- all replies, of exchanges before which there were n
abbrev pub texts : ℕ → List Exchange → List ℕ
texts n [] = []
texts n (x ∷ xs) = reply_text (suc n) x ++ texts (suc n) xs

-- ---- what was asked

-- the octets begin with the requests that were answered, and then the one that got no reply, where there is one
abbrev pub HasBegun : List ℕ → List Exchange → Option Posted → Type 0
HasBegun all xs lost = (rest : List ℕ) × AreFirst 0 all (map posted_of xs ++ lone lost) rest

-- the octets are the requests that were answered, and end by this cause; or, where the session broke off, begin with them
abbrev pub AreAsked : List ℕ → List Exchange → Option Posted → EndCause → Type 0
AreAsked all xs lost Closed = AreRequests 0 all (map posted_of xs) Closed
AreAsked all xs lost Asked = AreRequests 0 all (map posted_of xs) Asked
AreAsked all xs lost (Rejected status) = AreRequests 0 all (map posted_of xs) (Rejected status)
AreAsked all xs lost Limit = AreRequests 0 all (map posted_of xs) Limit
AreAsked all xs lost ReadFault = HasBegun all xs lost
AreAsked all xs lost WriteFault = HasBegun all xs lost
AreAsked all xs lost Unanswered = HasBegun all xs lost
AreAsked all xs lost NoMemory = HasBegun all xs lost

-- ---- what was written

-- known octets grow by the whole and some first octets of the part
abbrev pub AppendsSome : Option (List ℕ) → Option (List ℕ) → List ℕ → List ℕ → Type 0
AppendsSome before after whole part = (n : ℕ) × Appends before after (whole ++ take n part)

-- the write of the last reply failed: those before it are whole
abbrev pub BreaksOffReply : List Exchange → Option (List ℕ) → Option (List ℕ) → Type 0
BreaksOffReply xs before after =
    (ys : List Exchange) × (x : Exchange) × (xs ≡ ys ++ x ∷ []) × AppendsSome before after (texts 0 ys) (reply_text (suc (length ys)) x)

-- the write of a refusal failed: all replies are whole, and what follows the requests is turned away
abbrev pub BreaksOffRefusal : Option (List ℕ) → List Exchange → Option (List ℕ) → Option (List ℕ) → Type 0
BreaksOffRefusal left xs before after =
    (status : ℕ) × IfSome left (λ all. (rest : List ℕ) × AreFirst 0 all (map posted_of xs) rest × IsRejected rest status)
    × AppendsSome before after (texts 0 xs) (refusal status)

-- all replies and that there is none to the last request; less of the latter only where the stream failed
abbrev pub TellsNone : List Exchange → Option (List ℕ) → Option (List ℕ) → ℕ → ℕ → Type 0
TellsNone xs before after faults now = Appends before after (texts 0 xs ++ unavailable) ⊎ (AppendsSome before after (texts 0 xs) unavailable × Rose faults now)

-- What a session wrote, by its end: all replies, and what its end has to say. The counts are the faults of the stream before and now.
abbrev pub IsWritten : Option (List ℕ) → List Exchange → EndCause → Option (List ℕ) → Option (List ℕ) → ℕ → ℕ → Type 0
IsWritten left xs Closed before after faults now = Appends before after (texts 0 xs)
IsWritten left xs Asked before after faults now = Appends before after (texts 0 xs)
IsWritten left xs Limit before after faults now = Appends before after (texts 0 xs)
IsWritten left xs ReadFault before after faults now = Appends before after (texts 0 xs)
IsWritten left xs (Rejected status) before after faults now = Appends before after (texts 0 xs ++ refusal status)
IsWritten left xs WriteFault before after faults now = BreaksOffReply xs before after ⊎ BreaksOffRefusal left xs before after
IsWritten left xs Unanswered before after faults now = TellsNone xs before after faults now
IsWritten left xs NoMemory before after faults now = TellsNone xs before after faults now

-- the session ended as its requests say: no call failed
abbrev pub is_orderly : EndCause → Bool
is_orderly Closed = true
is_orderly Asked = true
is_orderly (Rejected status) = true
is_orderly Limit = true
is_orderly ReadFault = false
is_orderly WriteFault = false
is_orderly Unanswered = false
is_orderly NoMemory = false

-- ---- who answered: `answers` is what the answerer says of a call, from the state before it to the state after

module _ {A : Type 0} (answers : A → List ℕ → Answered → List ℕ → A → Type 0) where
  -- each request in its turn, once, and with a reply
  abbrev pub AllAnswered : A → List Exchange → A → Type 0
  AllAnswered a [] b = b ≡ a
  AllAnswered a (x ∷ xs) b = (mid : A) × answers a x.request (answer.Replied x.note) x.reply mid × AllAnswered mid xs b

  -- The request that got no reply, where there is one: what answers failed exactly where the session ends by that; else memory ran
  -- out, for the answer or for its frame.
  abbrev pub Breaks : A → Option Posted → EndCause → A → Type 0
  Breaks a None cause b = (b ≡ a) × (cause ≢ Unanswered)
  Breaks a (Some r) Unanswered b = answers a r.body answer.Failed [] b
  Breaks a (Some r) NoMemory b = (end : Answered) × (reply : List ℕ) × (end ≢ answer.Failed) × answers a r.body end reply b
  Breaks a (Some r) Closed b = ⊥
  Breaks a (Some r) Asked b = ⊥
  Breaks a (Some r) (Rejected status) b = ⊥
  Breaks a (Some r) Limit b = ⊥
  Breaks a (Some r) ReadFault b = ⊥
  Breaks a (Some r) WriteFault b = ⊥

  -- A session: from the state of the answerer a to the state b, over the octets that the stream had left, with what was written before
  -- and after, and its faults before and now.
  pub record IsServed (a b : A) (left before after : Option (List ℕ)) (faults now : ℕ) (end : SessionEnd) : Type 0 where
    pub exchanges : List Exchange
    pub notes : end.notes ≡ map note_of exchanges
    pub mid : A
    pub answered : AllAnswered a exchanges mid
    pub lost : Option Posted
    pub broken : Breaks mid lost end.cause b
    pub asked : IfSome left (λ all. AreAsked all exchanges lost end.cause)
    pub written : IsWritten left exchanges end.cause before after faults now
