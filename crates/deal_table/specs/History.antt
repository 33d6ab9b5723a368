-- What the parts of a decision know of a history: what it has settled for good, what the reply to a change of it needs, and
-- what a look tells.
use Rattle.std.specs.Prelude.{◌≡◌, ℕ, zero, suc, ◌+◌, ◌^◌, max, Bool, ◌||◌, nat_le, nat_lt, List, [], ◌++◌, length, take, Option, Some, None, unwrap_or, option_map, option_and_then, find, IsTrue, slice_get}
use Rattle.std.specs.Option.{option_or}
use Rattle.std.specs.List.{position_from}
use Rattle.deal_changes.specs.declared.change.Kind.{Kind}
use Rattle.deal_changes.specs.declared.change.Who.{Who}
use Rattle.deal_changes.specs.declared.change.Who.TheVariants.{Listed, Cert}
use Rattle.deal_changes.specs.declared.change.Body4.{Body4}
use Rattle.deal_changes.specs.declared.change.Stamp.{Stamp}
use Rattle.deal_changes.specs.declared.change.Wish.{Wish}
use Rattle.deal_changes.specs.declared.change.Settings.{Settings}
use Rattle.deal_changes.specs.declared.change.Change.{Change}
use Rattle.deal_changes.specs.declared.change.Change.TheVariants.{Grant, Hold}
use Rattle.deal_changes.specs.Spki.{is_ca_name, common_name}
use Rattle.deal_changes.specs.Times.{stamp_of}
use Rattle.deal_model.specs.declared.asking.Ask.{Ask}
use Rattle.deal_model.specs.declared.asking.Brief.{Brief}
use Rattle.deal_model.specs.declared.states.Owner.{Owner}
use Rattle.deal_model.specs.declared.states.Standing.{Standing}
use Rattle.deal_model.specs.declared.states.Standing.TheVariants.{Unknown}
use Rattle.deal_model.specs.Limits.{most_changes}
use Rattle.deal_model.specs.Keys.{key_of}
use Rattle.deal_model.specs.Views.{History, time_of, founding, settings_of, is_grant_for, is_hold_for, is_grant_of, has_digest, owner_of, standing_of, transaction_state}
use Rattle.deal_model.specs.Rules.{size_of, log_size}
use Rattle.deal_table.specs.declared.look.Look.{Look}

-- one history begins another
abbrev pub Begins : History → History → Type 0
Begins old new = (more : List Change) × (new ≡ old ++ more)

-- ---- what is settled for good

-- The service was founded, under a name that is one common name. Every legal history is so.
abbrev pub IsFounded : History → Type 0
IsFounded h = (s : Settings) × (founding h ≡ Some s) × IsTrue (is_ca_name s.name)

-- the authority's name, a Name as it stands, and how far a message's time may be from the service's
abbrev pub name_of : History → List ℕ
name_of h = (settings_of h).name

abbrev pub skew_of : History → ℕ
skew_of h = (settings_of h).skew

-- the place of the first change that passes; places are counted from 1
abbrev pub place_of : (Change → Bool) → History → Option ℕ
place_of test h = position_from test 1 h

-- the place of the change that the message with this digest made
unfoldable pub place_of_digest : History → List ℕ → Option ℕ
place_of_digest h digest = place_of (has_digest digest) h

-- what a transaction is about: who asked for a certificate, by which body, and what for
pub record Deal : Type 0 where
  pub who : Who
  pub body : Body4
  pub wish : Wish

abbrev pub deal_in : Change → Option Deal
deal_in (Grant s b w serial leaf) = Some (record { who = s.who; body = b; wish = w })
deal_in (Hold s b w) = Some (record { who = s.who; body = b; wish = w })
deal_in _ = None

-- the Grant of a transaction, or else its Hold
unfoldable pub deal_of : History → List ℕ → Option Deal
deal_of h tid = option_and_then deal_in (option_or (find (is_grant_for tid) h) (find (is_hold_for tid) h))

-- ---- what a reply needs

abbrev pub granted_key : Change → List ℕ
granted_key (Grant s b w serial leaf) = key_of w.spki
granted_key _ = []

abbrev pub material_of : Option Owner → List ℕ
material_of (Some o) = o.key
material_of None = []

-- the secret or key of a sender
abbrev pub secret_of : History → Who → List ℕ
secret_of h (Listed kind kid) = material_of (owner_of h kind kid)
secret_of h (Cert serial) = unwrap_or (option_map granted_key (find (is_grant_of serial) h)) []

-- what the reply to a change needs: its place, the change, the body of the request that began its transaction, none where it
-- revokes, and its sender's secret or key
pub record Receipted : Type 0 where
  pub place : ℕ
  pub change : Change
  pub body : Option Body4
  pub key : List ℕ

abbrev pub receipt_of : History → ℕ → Change → Stamp → Receipted
receipt_of h place c s = record { place = place; change = c; body = option_map (λ d. d.body) (deal_of h s.tid); key = secret_of h s.who }

-- the last change of a history, where a message made it
abbrev pub receipt_in : History → ℕ → Change → Option Receipted
receipt_in h place c = option_map (receipt_of h place c) (stamp_of c)

-- What the reply to the change at a place needs, as the history up to there tells it; none where no message made a change
-- there.
unfoldable pub receipt_at : History → ℕ → Option Receipted
receipt_at h zero = None
receipt_at h (suc n) = option_and_then (receipt_in (take (suc n) h) (suc n)) (slice_get h n)

-- what the reply to a transaction's Grant needs
unfoldable pub grant_receipt : History → List ℕ → Option Receipted
grant_receipt h tid = option_and_then (receipt_at h) (place_of (is_grant_for tid) h)

-- ---- what an event asks of the history

-- an event's time: the clock's reading, or the time of the last change where that is later
abbrev pub event_time : History → ℕ → ℕ
event_time h now = max now (time_of h)

-- to whom a credential of this kind belongs, where a message has a kind
abbrev pub owner_for : History → Option Kind → List ℕ → Option Owner
owner_for h (Some kind) kid = owner_of h kind kid
owner_for h None kid = None

abbrev pub standing_for : History → Option Kind → List ℕ → ℕ → Standing
standing_for h (Some kind) kid t = standing_of h kind kid t
standing_for h None kid t = Unknown

-- 262,144 changes stand, or the log with this one would have more than 2 ^ 30 octets
abbrev pub is_full : History → Change → Bool
is_full h c = nat_le most_changes (length h) || nat_lt (2 ^ 30) (log_size h + size_of c)

-- ---- the look

abbrev pub outer_standing : History → Option (Kind × List ℕ) → ℕ → Standing
outer_standing h (Some o) t = standing_of h o.0 o.1 t
outer_standing h None t = Unknown

-- the settings as a look tells them: of the name its text
abbrev pub brief_of : Settings → Brief
brief_of s = record { name = unwrap_or (common_name s.name) []; wait = s.wait; skew = s.skew; rounds = s.rounds; check_after = s.check_after; days = s.days; issue_key = s.issue_key; reply_key = s.reply_key }

-- what a look tells
abbrev pub look_of : History → Ask → ℕ → Look
look_of h ask now = record { place = length h; time = event_time h now; repeat = place_of_digest h ask.digest; cred = standing_for h ask.kind ask.kid (event_time h now); outer = outer_standing h ask.outer (event_time h now); tid_state = transaction_state h ask.tid; settings = brief_of (settings_of h) }
