-- What the octets of a reply say to a device that listens for it.
use Rattle.std.specs.Prelude.{◌≡◌, ◌↔◌, ℕ, ◌^◌, ◌==◌, nat_lt, Bool, true, false, IsTrue, List, Option, Some, None, if◌then◌else◌}
use Rattle.der_base.specs.Values.{BitString}
use Rattle.asn_fields.specs.Rows.{RowForm}
use Rattle.cmp_values.specs.declared.fail_info.FailInfo.{FailInfo}
use Rattle.deal_changes.specs.declared.change.Body4.{Body4}
use Rattle.deal_changes.specs.declared.change.Body4.TheVariants.{Ir, Cr, P10cr, Kur}
use Rattle.pki_parts.specs.FailInfo.{IsFirst}
use Rattle.pki_parts.specs.CertRep.{RepForm, ShownForm}
use Rattle.pki_parts.specs.Polling.{PollForm}
use Rattle.pki_message.specs.Body as forms
use Rattle.pki_message.specs.Body.{BodyForm}
use Rattle.pki_message.specs.Message.{MessageForm}
use Rattle.intake.specs.Headers.{asks_implicit}
use Rattle.intake.specs.Letter.{IsReading}
use Rattle.intake.specs.Values.{number_in}
use Rattle.device_table.specs.declared.event.Heard.{Heard}
use Rattle.device_table.specs.declared.event.Word.{Word}
use Rattle.device_table.specs.declared.event.Word.TheVariants.{Errs, Delays, Denies, Issues, Confirms, SaysOther}
use Rattle.device_hearing.specs.declared.listener.Listener.{Listener}
use Rattle.device_hearing.specs.declared.status.Status.{Status}
use Rattle.device_hearing.specs.declared.status.Status.TheVariants.{Granted, Rejected, Waiting, Other}
use Rattle.device_hearing.specs.Trust.{IsTrustedBy, IsAskedFor}

-- ---- bodies

-- the reason of an error: of the names whose bits are set the one with the lowest bit
abbrev pub IsReason : Option BitString → Option FailInfo → Type 0
IsReason None reason = reason ≡ None
IsReason (Some bits) reason = IsFirst bits reason

-- the one entry of a row
abbrev pub sole_in : {X : Type 0} → RowForm X → Option X
sole_in row = if row.count == 1 then row.first else None

-- a pollRep of one entry, whose seconds are below 2 ^ 32 (RFC 9810, 5.3.22)
abbrev pub delay_of : Option ℕ → Word
delay_of None = SaysOther
delay_of (Some seconds) = if nat_lt seconds (2 ^ 32) then Delays seconds else SaysOther

abbrev pub poll_word : Option PollForm → Word
poll_word None = SaysOther
poll_word (Some p) = delay_of (number_in p.after)

abbrev pub ip_in : BodyForm → Option RepForm
ip_in (forms.ip rep) = Some rep
ip_in _ = None

abbrev pub cp_in : BodyForm → Option RepForm
cp_in (forms.cp rep) = Some rep
cp_in _ = None

abbrev pub kup_in : BodyForm → Option RepForm
kup_in (forms.kup rep) = Some rep
kup_in _ = None

-- the reply to a request: ip to ir, cp to cr and to p10cr, kup to kur (RFC 9810, 5.3.2, 5.3.4 and 5.3.6)
abbrev pub rep_in : Body4 → BodyForm → Option RepForm
rep_in Ir body = ip_in body
rep_in Cr body = cp_in body
rep_in P10cr body = cp_in body
rep_in Kur body = kup_in body

-- a certificate is issued, and whether it is the one that was asked for
abbrev pub IsIssuing : Listener → Option (List ℕ) → List ℕ → Word → Type 0
IsIssuing l ca_pubs cert word = (is_asked_for : Bool) × (IsTrue is_asked_for ↔ IsAskedFor l ca_pubs cert) × (word ≡ Issues cert is_asked_for)

abbrev pub IsGiving : Listener → Option (List ℕ) → Option (List ℕ) → Word → Type 0
IsGiving l ca_pubs None word = word ≡ SaysOther
IsGiving l ca_pubs (Some cert) word = IsIssuing l ca_pubs cert word

-- PKIStatus: accepted 0 and grantedWithMods 1, rejection 2, waiting 3 (RFC 9810, 5.2.3)
abbrev pub status_by : Option ℕ → Status
status_by None = Other
status_by (Some number) = if nat_lt number 2 then Granted else (if number == 2 then Rejected else (if number == 3 then Waiting else Other))

-- A request that waits may be asked for again after a second.
abbrev pub IsStatus : Listener → Option (List ℕ) → Option (List ℕ) → Status → Word → Type 0
IsStatus l ca_pubs cert Granted word = IsGiving l ca_pubs cert word
IsStatus l ca_pubs cert Rejected word = word ≡ Denies
IsStatus l ca_pubs cert Waiting word = word ≡ Delays 1
IsStatus l ca_pubs cert Other word = word ≡ SaysOther

-- what the one response says
abbrev pub IsResponse : Listener → Option (List ℕ) → Option ShownForm → Word → Type 0
IsResponse l ca_pubs None word = word ≡ SaysOther
IsResponse l ca_pubs (Some r) word = IsStatus l ca_pubs r.cert (status_by (number_in r.status.status)) word

abbrev pub IsReply : Listener → Option RepForm → Word → Type 0
IsReply l None word = word ≡ SaysOther
IsReply l (Some rep) word = IsResponse l rep.ca_pubs (sole_in rep.row) word

-- What a body says. No certReqId is compared: a device asks for one certificate at a time.
abbrev pub IsWord : Listener → BodyForm → Word → Type 0
IsWord l (forms.error e) word = (reason : Option FailInfo) × IsReason e.status.fail reason × (word ≡ Errs reason)
IsWord l forms.pkiconf word = word ≡ Confirms
IsWord l (forms.poll_rep row) word = word ≡ poll_word (sole_in row)
IsWord l body word = IsReply l (rep_in l.request body) word

-- ---- the whole reply

-- what a message says
pub record IsSaid (l : Listener) (m : MessageForm) (h : Heard) : Type 0 where
  pub message : h.is_message ≡ true
  pub tid : h.tid ≡ m.head.tid
  pub nonce : h.nonce ≡ m.head.sender_nonce
  pub answers : h.answers ≡ m.head.recip_nonce
  pub verifies : IsTrue h.verifies ↔ IsTrustedBy l.guard l.root m
  pub implicit : h.is_implicit ≡ asks_implicit m.head.info
  pub word : IsWord l m.body h.word

-- what octets say that are no message
abbrev pub nothing : Heard
nothing = record { is_message = false; tid = None; nonce = None; answers = None; verifies = false; is_implicit = false; word = SaysOther }

abbrev pub IsTold : Listener → Option MessageForm → Heard → Type 0
IsTold l None h = h ≡ nothing
IsTold l (Some m) h = IsSaid l m h

-- The octets say this: they are a message, which says it, or none.
pub record IsHeard (l : Listener) (octets : List ℕ) (h : Heard) : Type 0 where
  pub form : Option MessageForm
  pub reading : IsReading octets form
  pub told : IsTold l form h
