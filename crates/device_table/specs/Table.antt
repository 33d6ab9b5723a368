-- The table of a device that enrols: what it does by the stage it is in and by what it is told. Of a reply only these facts are asked,
-- so the table knows no octets (RFC 9810, 5.1.1, 5.1.3 and 5.3).
use Rattle.std.specs.Prelude.{ℕ, ◌+◌, Bool, true, false, not, ◌||◌, nat_lt, List, Option, Some, None, if◌then◌else◌}
use Rattle.std.specs.Str.{bytes_eq}
use Rattle.device_table.specs.declared.event.Word.{Word}
use Rattle.device_table.specs.declared.event.Word.TheVariants.{Errs, Delays, Denies, Issues, Confirms, SaysOther}
use Rattle.device_table.specs.declared.event.Heard.{Heard}
use Rattle.device_table.specs.declared.event.Event.{Event}
use Rattle.device_table.specs.declared.event.Event.TheVariants.{Begin, Hears, Lost, Wake}
use Rattle.device_table.specs.declared.stage.Deal.{Deal}
use Rattle.device_table.specs.declared.stage.Out.{Out}
use Rattle.device_table.specs.declared.stage.Phase.{Phase}
use Rattle.device_table.specs.declared.stage.Phase.TheVariants.{Asked, Polling, Confirming, Rejecting}
use Rattle.device_table.specs.declared.stage.Stage.{Stage}
use Rattle.device_table.specs.declared.stage.Stage.TheVariants.{Start, Talks, Waits, Ended}
use Rattle.device_table.specs.declared.deeds.Verdict.TheVariants.{Accepts, Rejects}
use Rattle.device_table.specs.declared.deeds.Speech.TheVariants.{Requests, Polls, Settles}
use Rattle.device_table.specs.declared.deeds.Cause.TheVariants.{Silent, BadReply, Refused, BadProtection, Denied, BadCertificate}
use Rattle.device_table.specs.declared.deeds.Deed.{Deed}
use Rattle.device_table.specs.declared.deeds.Deed.TheVariants.{Says, Repeats, Rests, Keeps, Wins, Fails}

-- ---- whether a reply is one to the message that is out

-- octets that stand, and are these
abbrev pub is_some_of : Option (List ℕ) → List ℕ → Bool
is_some_of (Some a) b = bytes_eq a b
is_some_of None b = false

-- Its recipNonce is the senderNonce of the message that is out, or of the first request while a device polls: what waited is
-- answered at last as the request that it was.
abbrev pub is_answer : Deal → Out → Phase → Heard → Bool
is_answer d o Asked m = is_some_of m.answers o.nonce
is_answer d o Polling m = is_some_of m.answers o.nonce || is_some_of m.answers d.nonce
is_answer d o (Confirming cert) m = is_some_of m.answers o.nonce
is_answer d o Rejecting m = is_some_of m.answers o.nonce

-- ---- what its body is answered with

-- A certificate that was asked for is held where no confirmation is wanted, and else confirmed; another one is rejected.
abbrev pub issued_deed : List ℕ → Bool → Heard → Deed
issued_deed cert true m = if m.is_implicit then Wins cert else Says (Settles Accepts cert m.nonce) (Confirming cert)
issued_deed cert false m = Says (Settles Rejects cert m.nonce) Rejecting

-- after a request or a pollReq
abbrev pub asked_deed : Word → Heard → Deed
asked_deed (Errs reason) m = Fails BadReply
asked_deed (Delays seconds) m = Rests seconds m.nonce
asked_deed Denies m = Fails Denied
asked_deed (Issues cert is_asked_for) m = issued_deed cert is_asked_for m
asked_deed Confirms m = Fails BadReply
asked_deed SaysOther m = Fails BadReply

-- after a certConf
abbrev pub settled_deed : Deed → Word → Deed
settled_deed done Confirms = done
settled_deed done (Errs reason) = Fails BadReply
settled_deed done (Delays seconds) = Fails BadReply
settled_deed done Denies = Fails BadReply
settled_deed done (Issues cert is_asked_for) = Fails BadReply
settled_deed done SaysOther = Fails BadReply

-- a reply whose protection holds
abbrev pub trusted_deed : Phase → Heard → Deed
trusted_deed Asked m = asked_deed m.word m
trusted_deed Polling m = asked_deed m.word m
trusted_deed (Confirming cert) m = settled_deed (Wins cert) m.word
trusted_deed Rejecting m = settled_deed (Fails BadCertificate) m.word

-- An error ends a run whether it is protected or not (RFC 9810, 5.3.21); nothing else is taken that isn't.
abbrev pub worded_deed : Phase → Heard → Word → Deed
worded_deed p m (Errs reason) = Fails (Refused reason)
worded_deed p m _ = if m.verifies then trusted_deed p m else Fails BadProtection

-- ---- what a device does

-- A reply to another message is kept out of the run.
abbrev pub heard_deed : Deal → Out → Phase → Heard → Deed
heard_deed d o p m = if not m.is_message then Fails BadReply
    else (if not (is_some_of m.tid d.tid) || not (is_answer d o p m) then Keeps else worded_deed p m m.word)

-- a message is sent eight times at most
abbrev pub lost_deed : Out → Phase → Deed
lost_deed o p = if nat_lt (o.lost + 1) 8 then Repeats (record { octets = o.octets; nonce = o.nonce; lost = o.lost + 1 }) p else Fails Silent

-- a message is out
abbrev pub talking_deed : Deal → Out → Phase → Event → Deed
talking_deed d o p Begin = Keeps
talking_deed d o p (Hears m) = heard_deed d o p m
talking_deed d o p Lost = lost_deed o p
talking_deed d o p Wake = Keeps

abbrev pub starting_deed : Event → Deed
starting_deed Begin = Says Requests Asked
starting_deed (Hears m) = Keeps
starting_deed Lost = Keeps
starting_deed Wake = Keeps

abbrev pub waiting_deed : Option (List ℕ) → Event → Deed
waiting_deed last Begin = Keeps
waiting_deed last (Hears m) = Keeps
waiting_deed last Lost = Keeps
waiting_deed last Wake = Says (Polls last) Polling

-- The table: where no row is for an event, nothing is done.
abbrev pub deed : Deal → Stage → Event → Deed
deed d Start e = starting_deed e
deed d (Talks o p) e = talking_deed d o p e
deed d (Waits last) e = waiting_deed last e
deed d Ended e = Keeps
