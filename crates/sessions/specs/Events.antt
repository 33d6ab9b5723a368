-- What happens in a session: a message is answered, or memory runs out before it is; and what holds of that in a history.
--
-- In each word k is what the authority replies with, and h the history.
use Rattle.std.specs.Prelude.{◌≡◌, ℕ, ◌-◌, ◌<◌, ◌≤◌, Bool, List, [], ◌∷◌, ◌++◌, length, take, map, flat_map, replicate, slice_get, Option, Some, None, IfSome}
use Rattle.cmp_values.specs.declared.fail_info.FailInfo.TheVariants.{SystemFailure}
use Rattle.cmp_ports.specs.Coming.{latest}
use Rattle.cmp_ports.specs.declared.note.Note.{Note}
use Rattle.cmp_ports.specs.declared.note.Outcome.{Outcome}
use Rattle.cmp_ports.specs.declared.note.Outcome.TheVariants as outcome
use Rattle.deal_changes.specs.declared.change.Change.{Change}
use Rattle.deal_model.specs.Views.{History}
use Rattle.deal_table.specs.History.{event_time}
use Rattle.deal_table.specs.Message.{echo_of, echo_to}
use Rattle.deal_table.specs.Table.{To, Repeats, Refuses}
use Rattle.letter_laws.specs.Laws.{HasLetter}
use Rattle.reply_maker.specs.Refusals.{refusal_of}
use Rattle.reply_maker.specs.Replies.{Replier}
use Rattle.front.specs.Answers.{ForLetter, IsDecision, IsOwn, IsReplyAt}
use Rattle.front.specs.Ends.{done_place}
use Rattle.http_heads.specs.Requests.{Posted}
use Rattle.http_wire.specs.Sessions.{Exchange}

-- A message that was answered: its octets and whether its request asked for the end of the session; the clock's reading and the words
-- that were drawn, none where the draw failed; what was noted of it, and the reply.
pub record Event : Type 0 where
  pub request : List ℕ
  pub asks : Bool
  pub now : ℕ
  pub drawn : Option (List ℕ)
  pub note : Note
  pub reply : List ℕ

-- A message that got no reply, for want of memory: its octets and whether its request asked for the end; the clock's reading and the
-- words that were drawn; and the place of its change, where it made one.
pub record Lost : Type 0 where
  pub request : List ℕ
  pub asks : Bool
  pub now : ℕ
  pub drawn : Option (List ℕ)
  pub made : Option ℕ

-- ---- what is left of them

-- as the exchange over HTTP
abbrev pub exchange_of : Event → Exchange
exchange_of x = record { request = x.request; asks = x.asks; note = x.note; reply = x.reply }

abbrev pub posted_by : Lost → Posted
posted_by x = record { body = x.request; asks = x.asks }

abbrev pub lost_request : Option Lost → Option Posted
lost_request None = None
lost_request (Some x) = Some (posted_by x)

-- what the clock gave, in the order of the messages
abbrev pub lost_reading : Option Lost → List ℕ
lost_reading None = []
lost_reading (Some x) = x.now ∷ []

abbrev pub readings_of : List Event → Option Lost → List ℕ
readings_of xs lost = map (λ x. x.now) xs ++ lost_reading lost

-- what the entropy gave, each draw that failed among it
abbrev pub lost_draw : Option Lost → List (Option (List ℕ))
lost_draw None = []
lost_draw (Some x) = x.drawn ∷ []

abbrev pub draws_of : List Event → Option Lost → List (Option (List ℕ))
draws_of xs lost = map (λ x. x.drawn) xs ++ lost_draw lost

-- the places of the changes that were made: those of the notes, and of the message that got no reply
abbrev pub done_places : List Note → List ℕ
done_places notes = flat_map (λ n. done_place n.place n.outcome) notes

abbrev pub lone_place : Option ℕ → List ℕ
lone_place None = []
lone_place (Some place) = place ∷ []

abbrev pub lost_places : Option Lost → List ℕ
lost_places None = []
lost_places (Some x) = lone_place x.made

-- ---- what a note says

-- how many changes there were when the message was decided: its own change is the next
abbrev pub length_before : ℕ → Outcome → ℕ
length_before place outcome.Done = place - 1
length_before place outcome.Again = place
length_before place (outcome.Refused fail) = place
length_before place outcome.SystemFailure = place

abbrev pub known : Note → ℕ
known n = length_before n.place n.outcome

-- those changes
abbrev pub before : History → Note → History
before h n = take (known n) h

-- The answer is that of its outcome: the message's own change stands at the note's place and the reply is that to it, or the reply to an
-- earlier change; or the refusal, to the message that is about something or to the nested one around it; or that a device failed. In
-- each the decision is that over the changes g before it, at the time and by the words of the note.
abbrev pub IsNotedAs : Replier → History → History → Event → Outcome → Type 0
IsNotedAs k h g x outcome.Done = (c : Change) × (slice_get h (x.note.place - 1) ≡ Some c) × IsOwn k x.request g x.note.time x.note.words c × IsReplyAt k h x.note.place x.reply
IsNotedAs k h g x outcome.Again = (place : ℕ) × IsDecision k x.request g x.note.time x.note.words (Repeats place) × IsReplyAt k h place x.reply
IsNotedAs k h g x (outcome.Refused fail) = (to : To) × IsDecision k x.request g x.note.time x.note.words (Refuses fail to)
    × ForLetter k x.request (λ l. x.reply ≡ refusal_of k.keys (echo_to l to.outer) fail to.guard x.note.time (Some x.note.words))
IsNotedAs k h g x outcome.SystemFailure = ForLetter k x.request (λ l. x.reply ≡ refusal_of k.keys (echo_of l.message.header) SystemFailure None x.note.time None)

-- the note's words are those that were drawn; where none could be, they are zeros, and the service failed
abbrev pub IsWorded : Option (List ℕ) → Note → Type 0
IsWorded (Some w) n = n.words ≡ w
IsWorded None n = (n.words ≡ replicate 32 0) × (n.outcome ≡ outcome.SystemFailure)

-- The message was answered in this history as its note says. It has a letter, so that what is said of each letter that it is is said of one.
pub record IsNoted (k : Replier) (h : History) (x : Event) : Type 0 where
  pub letter : HasLetter x.request
  pub timely : x.now ≤ latest
  pub within : x.note.place ≤ length h
  pub time : x.note.time ≡ event_time (before h x.note) x.now
  pub words : IsWorded x.drawn x.note
  pub answered : IsNotedAs k h (before h x.note) x x.note.outcome

-- Each message was answered as its note says, one after the other: each over at least as many changes as the note before tells, the first
-- over at least so many.
abbrev pub AreNoted : Replier → History → ℕ → List Event → Type 0
AreNoted k h floor [] = floor ≤ length h
AreNoted k h floor (x ∷ xs) = (floor ≤ known x.note) × IsNoted k h x × AreNoted k h x.note.place xs

-- the place of the last note, or this where there is none
abbrev pub last_place : ℕ → List Event → ℕ
last_place floor [] = floor
last_place floor (x ∷ xs) = last_place x.note.place xs

-- The change at this place is the message's own, decided over the changes before it.
pub record IsMadeAt (k : Replier) (h : History) (x : Lost) (place : ℕ) : Type 0 where
  pub words : List ℕ
  pub drawn : x.drawn ≡ Some words
  pub change : Change
  pub stands : slice_get h (place - 1) ≡ Some change
  pub own : IsOwn k x.request (take (place - 1) h) x.now words change

-- A message got no reply: it made nothing, or its own change, behind so many others.
pub record IsLost (k : Replier) (h : History) (floor : ℕ) (x : Lost) : Type 0 where
  pub letter : HasLetter x.request
  pub timely : x.now ≤ latest
  pub made : IfSome x.made (λ place. (floor < place) × IsMadeAt k h x place)
