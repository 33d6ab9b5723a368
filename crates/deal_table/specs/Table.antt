-- The table by which a message is decided, over its facts and the history. A row is a reason and a test, and the first row that
-- applies gives the answer; where none does, a change is made.
use Rattle.std.specs.Prelude.{ℕ, ◌+◌, Bool, true, false, not, ◌&&◌, ◌||◌, ◌==◌, nat_le, nat_lt, List, [], ◌∷◌, ◌++◌, Option, Some, None, is_none, unwrap_or, option_and_then, find, if◌then◌else◌}
use Rattle.std.specs.List.{list_any}
use Rattle.deal_changes.specs.declared.change.Kind.{Kind}
use Rattle.deal_changes.specs.declared.change.Kind.TheVariants.{Mac, Lms}
use Rattle.deal_changes.specs.declared.change.Who.{Who}
use Rattle.deal_changes.specs.declared.change.Who.TheVariants.{Listed, Cert}
use Rattle.deal_changes.specs.declared.change.Body4.{Body4}
use Rattle.deal_changes.specs.declared.change.Body4.TheVariants.{Ir, Cr, P10cr, Kur}
use Rattle.deal_changes.specs.declared.change.Stamp.{Stamp}
use Rattle.deal_changes.specs.declared.change.Change.{Change}
use Rattle.deal_changes.specs.declared.change.Change.TheVariants.{Grant, Hold, Turned, Polled, Settled, Revoke}
use Rattle.deal_model.specs.declared.states.Key.{Key}
use Rattle.deal_model.specs.declared.states.Key.TheVariants.{Issue, Reply}
use Rattle.deal_model.specs.declared.states.CertificateState.{CertificateState}
use Rattle.deal_model.specs.declared.states.CertificateState.TheVariants as certificates
use Rattle.deal_model.specs.declared.states.DealState.{DealState}
use Rattle.deal_model.specs.declared.states.DealState.TheVariants.{Unused, Held, Released, Denied, Other}
use Rattle.deal_model.specs.declared.states.Owner.{Owner}
use Rattle.deal_model.specs.declared.states.Standing.{Standing}
use Rattle.deal_model.specs.declared.states.Standing.TheVariants.{Unknown, OtherKind, Barred, Good}
use Rattle.deal_model.specs.Keys.{leaves_of, key_id, key_of}
use Rattle.deal_model.specs.Views.{History, same, settings_of, is_grant_for, is_grant_of, is_confirmed, is_key_taken, certificate_state, transaction_state, is_told, last_nonce, leaves_used, taken_leaves}
use Rattle.deal_model.specs.Rules.{same_who, has_right, is_granted_to, reply_leaf}
use Rattle.cmp_values.specs.declared.fail_info.FailInfo.{FailInfo}
use Rattle.cmp_values.specs.declared.fail_info.FailInfo.TheVariants.{BadAlg, BadMessageCheck, BadRequest, BadTime, BadCertId, BadDataFormat, BadPop, CertRevoked, CertConfirmed, WrongIntegrity, BadRecipientNonce, BadSenderNonce, BadCertTemplate, SignerNotTrusted, TransactionIdInUse, UnsupportedVersion, NotAuthorized, SystemUnavail, DuplicateCertReq}
use Rattle.deal_table.specs.History.{Receipted, Deal, name_of, skew_of, place_of_digest, deal_of, grant_receipt, event_time, standing_for, is_full}
use Rattle.deal_table.specs.Message.{RequestId, Zero, MinusOne, OtherId, Named, Enrolment, Confirmation, Polling, Withdrawal, Body, Enrols, Confirms, Polls, Withdraws, Nests, OtherBody, is_nested, is_version, Header, Facts, Letter}

-- ---- rows and answers

-- a reason, where a test holds
pub record Row : Type 0 where
  pub fail : FailInfo
  pub applies : Bool

infix 8 ◌when◌
abbrev pub ◌when◌ : FailInfo → Bool → Row
fail when test = record { fail = fail; applies = test }

-- what a refusal is protected by: the sender's secret under its reference
pub record Secret : Type 0 where
  pub kid : List ℕ
  pub key : List ℕ

-- which message a refusal answers, the outer one or the one that is about something; and what protects it, where it is
-- protected
pub record To : Type 0 where
  pub outer : Bool
  pub guard : Option Secret

-- A change is made; the reply at a place is sent again; the message is refused; or certHash has to be compared first with the
-- certificate of the Grant at a place, which comes of no message whose certHash was compared.
pub data Decision : Type 0 where
  Makes : Change → Decision
  Repeats : ℕ → Decision
  Refuses : FailInfo → To → Decision
  Asks : ℕ → Decision

-- the first row that applies, or else what is decided next
abbrev pub unless : To → List Row → Decision → Decision
unless to [] next = next
unless to (row ∷ rows) next = if row.applies then Refuses row.fail to else unless to rows next

-- no row applies
abbrev pub pass : List Row → Bool
pass rows = not (list_any (λ row. row.applies) rows)

-- what happens: the history before it, its time, and the words drawn for a reply
pub record Event : Type 0 where
  pub history : History
  pub time : ℕ
  pub words : List ℕ

-- a message whose sender is known, and whom a refusal of it answers
pub record Sent : Type 0 where
  pub to : To
  pub digest : List ℕ
  pub header : Header
  pub owner : Owner

-- ---- senders

-- the rights of a sender
abbrev pub may : ℕ → Owner → Bool
may right o = has_right right (Some o.rights)

abbrev pub may_enrol : Owner → Bool
may_enrol o = may 1 o

abbrev pub may_vouch : Owner → Bool
may_vouch o = may 2 o

abbrev pub may_wrap : Owner → Bool
may_wrap o = may 4 o

abbrev pub may_revoke : Owner → Bool
may_revoke o = may 8 o

-- its requests wait for an order
abbrev pub is_on_hold : Owner → Bool
is_on_hold o = may 16 o

abbrev pub is_certificate : Who → Bool
is_certificate (Cert serial) = true
is_certificate (Listed kind kid) = false

-- ---- the message's form

abbrev pub form_rows : Facts → List Row
form_rows m = (BadDataFormat when not m.is_message) ∷ []

-- the version, the transactionID, the senderNonce
abbrev pub header_rows : Header → List Row
header_rows head = (UnsupportedVersion when not (is_version head.pvno))
    ∷ (BadDataFormat when is_none head.tid)
    ∷ (BadSenderNonce when is_none head.sender_nonce)
    ∷ []

-- The bodies that are about something. A nested message inside another one isn't served.
abbrev pub is_served : Body → Bool
is_served (Enrols e) = true
is_served (Confirms c) = true
is_served (Polls p) = true
is_served (Withdraws w) = true
is_served (Nests count) = false
is_served OtherBody = false

abbrev pub served_rows : Facts → List Row
served_rows m = (BadRequest when not (is_served m.body)) ∷ []

-- ---- protection and time

abbrev pub protection_rows : Facts → List Row
protection_rows m = (BadMessageCheck when not m.is_protected)
    ∷ (BadAlg when is_none m.header.kind)
    ∷ []

abbrev pub standing_now : History → ℕ → Facts → Standing
standing_now h t m = standing_for h m.header.kind m.header.kid t

-- the sender: nobody; somebody by a credential of the other kind; somebody who is dismissed or whose certificate isn't in force
abbrev pub known : To → Standing → (Owner → Decision) → Decision
known to Unknown next = Refuses SignerNotTrusted to
known to OtherKind next = Refuses WrongIntegrity to
known to Barred next = Refuses NotAuthorized to
known to (Good who key rights) next = next (record { who = who; key = key; rights = rights })

abbrev pub check_rows : Facts → Owner → List Row
check_rows m o = (BadMessageCheck when not (m.verifies o.key)) ∷ []

-- a time that stands is more than so many seconds from the event's
abbrev pub is_apart : ℕ → ℕ → Option ℕ → Bool
is_apart skew t (Some time) = nat_lt (time + skew) t || nat_lt (t + skew) time
is_apart skew t None = false

abbrev pub time_rows : Facts → ℕ → ℕ → List Row
time_rows m skew t = (BadTime when is_apart skew t m.header.time) ∷ []

-- nothing protects a refusal before the protection is checked; then the sender's secret does, where it has one
abbrev pub bare : Bool → To
bare outer = record { outer = outer; guard = None }

abbrev pub guard_by : Option Kind → List ℕ → Owner → Option Secret
guard_by (Some Mac) kid o = Some (record { kid = kid; key = o.key })
guard_by (Some Lms) kid o = None
guard_by None kid o = None

abbrev pub guarded : Bool → Facts → Owner → To
guarded outer m o = record { outer = outer; guard = guard_by m.header.kind m.header.kid o }

-- protection and sender of a message, the outer one or the one that is about something
abbrev pub proven_by : Standing → Bool → Facts → (Owner → Decision) → Decision
proven_by standing outer m next = unless (bare outer) (protection_rows m)
    (known (bare outer) standing (λ o. unless (bare outer) (check_rows m o) (next o)))

-- the same, and then its time
abbrev pub trusted_by : Standing → ℕ → ℕ → Bool → Facts → (Owner → Decision) → Decision
trusted_by standing skew t outer m next = proven_by standing outer m (λ o. unless (guarded outer m o) (time_rows m skew t) (next o))

abbrev pub trusted : History → ℕ → Bool → Facts → (Owner → Decision) → Decision
trusted h t outer m next = trusted_by (standing_now h t m) (skew_of h) t outer m next

-- ---- transactions

abbrev pub tid_of : Header → List ℕ
tid_of head = unwrap_or head.tid []

abbrev pub is_unused : DealState → Bool
is_unused Unused = true
is_unused _ = false

-- a request began the transaction
abbrev pub is_deal : DealState → Bool
is_deal Unused = false
is_deal Other = false
is_deal _ = true

-- a request or a revocation begins a transaction
abbrev pub new_rows : DealState → List Row
new_rows state = (TransactionIdInUse when not (is_unused state)) ∷ []

-- a certConf or a pollReq goes on with one
abbrev pub old_rows : DealState → List Row
old_rows state = (BadRequest when not (is_deal state)) ∷ []

abbrev pub is_of : Option Deal → Who → Bool
is_of (Some d) who = same_who d.who who
is_of None who = false

abbrev pub same_nonce : Option (List ℕ) → Option (List ℕ) → Bool
same_nonce (Some a) (Some b) = same a b
same_nonce (Some a) None = false
same_nonce None (Some b) = false
same_nonce None None = false

-- by its own sender, in answer to the last reply
abbrev pub party_rows : History → Header → Who → List Row
party_rows h head who = (NotAuthorized when not (is_of (deal_of h (tid_of head)) who))
    ∷ (BadRecipientNonce when not (same_nonce head.recip_nonce (last_nonce h (tid_of head))))
    ∷ []

abbrev pub is_p10cr : Body4 → Bool
is_p10cr P10cr = true
is_p10cr Ir = false
is_p10cr Cr = false
is_p10cr Kur = false

-- a certReqId other than 0, or than 0 and -1 where the transaction began with a request in the form of PKCS #10
abbrev pub is_bad_id : Option Deal → RequestId → Bool
is_bad_id d Zero = false
is_bad_id (Some d) MinusOne = not (is_p10cr d.body)
is_bad_id None MinusOne = true
is_bad_id d OtherId = true

-- what the history says of the message's transaction
abbrev pub state_now : Event → Sent → DealState
state_now v s = transaction_state v.history (tid_of s.header)

abbrev pub deal_now : Event → Sent → Option Deal
deal_now v s = deal_of v.history (tid_of s.header)

-- ---- what a message makes

-- the stamp that a message leaves
abbrev pub stamp_by : Event → Sent → Stamp
stamp_by v s = record { tid = tid_of s.header; digest = s.digest; who = s.owner.who; sender = s.header.sender; pvno = s.header.pvno; sender_nonce = unwrap_or s.header.sender_nonce []; words = v.words; time = v.time; leaf = reply_leaf v.history s.owner.who }

abbrev pub grant_by : Event → Sent → Deal → Change
grant_by v s d = Grant (stamp_by v s) d.body d.wish (leaves_used v.history Issue + 1) (leaves_used v.history Issue)

-- a leaf that its key doesn't have
abbrev pub is_past_key : History → Key × ℕ → Bool
is_past_key h (Issue, leaf) = nat_le (leaves_of (settings_of h).issue_key) leaf
is_past_key h (Reply, leaf) = nat_le (leaves_of (settings_of h).reply_key) leaf

-- a leaf is needed and all are used, or the journal is full
abbrev pub room_rows : History → Change → List Row
room_rows h c = (SystemUnavail when list_any (is_past_key h) (taken_leaves c) || is_full h c) ∷ []

abbrev pub made : Event → Sent → Change → Decision
made v s c = unless s.to (room_rows v.history c) (Makes c)

-- ---- a request for a certificate

abbrev pub is_kur : Body4 → Bool
is_kur Kur = true
is_kur Ir = false
is_kur Cr = false
is_kur P10cr = false

-- a name that stands is another than the authority's; a name that stands is the authority's
abbrev pub is_other_name : List ℕ → Option (List ℕ) → Bool
is_other_name name (Some issuer) = not (same issuer name)
is_other_name name None = false

abbrev pub is_named : List ℕ → Option (List ℕ) → Bool
is_named name (Some issuer) = same issuer name
is_named name None = false

abbrev pub is_serial_of : Who → Option ℕ → Bool
is_serial_of (Cert serial) (Some n) = n == serial
is_serial_of (Cert serial) None = false
is_serial_of (Listed kind kid) n = false

-- oldCertID names another certificate than the sender's
abbrev pub is_other_old : List ℕ → Owner → Option Named → Bool
is_other_old name o (Some old) = not (is_named name old.issuer && is_serial_of o.who old.serial)
is_other_old name o None = false

abbrev pub wish_rows : List ℕ → Owner → Enrolment → List Row
wish_rows name o e = (BadRequest when not e.is_one)
    ∷ (NotAuthorized when not (may_enrol o) || (is_kur e.body && not (is_certificate o.who)))
    ∷ (BadCertTemplate when not e.has_subject || not e.has_key || e.has_bad_field || is_other_name name e.issuer || e.has_bad_extension)
    ∷ (BadAlg when e.has_bad_alg)
    ∷ (BadCertId when is_kur e.body && is_other_old name o e.old)
    ∷ []

abbrev pub key_rows : History → Enrolment → List Row
key_rows h e = (DuplicateCertReq when is_key_taken h (key_id (key_of e.wish.spki))) ∷ []

-- Possession of the private key (RFC 4211, 4, and RFC 9810, 5.2.8): by the word of one who may vouch, else by a signature.
abbrev pub is_possessed : Owner → Enrolment → Bool
is_possessed o e = if e.by_ra then may_vouch o else e.is_proven

abbrev pub proof_rows : Bool → List Row
proof_rows possessed = (BadPop when not possessed) ∷ []

-- a sender on hold waits for an order
abbrev pub enrolled : Event → Sent → Enrolment → Change
enrolled v s e = if is_on_hold s.owner then Hold (stamp_by v s) e.body e.wish else grant_by v s (record { who = s.owner.who; body = e.body; wish = e.wish })

abbrev pub enrols : Event → Sent → Enrolment → Decision
enrols v s e = unless s.to (new_rows (state_now v s) ++ wish_rows (name_of v.history) s.owner e ++ key_rows v.history e ++ proof_rows (is_possessed s.owner e))
    (made v s (enrolled v s e))

-- ---- a certConf

abbrev pub granted_serial : Change → Option ℕ
granted_serial (Grant s b w serial leaf) = Some serial
granted_serial _ = None

-- how the certificate of a transaction stands; none where it has none yet
abbrev pub deal_certificate : History → List ℕ → Option CertificateState
deal_certificate h tid = option_and_then (certificate_state h) (option_and_then granted_serial (find (is_grant_for tid) h))

-- it is revoked, or its deadline is reached
abbrev pub is_lost : ℕ → Option CertificateState → Bool
is_lost t (Some (certificates.Open deadline)) = nat_le deadline t
is_lost t (Some certificates.Confirmed) = false
is_lost t (Some (certificates.Revoked reason)) = true
is_lost t None = false

abbrev pub confirm_rows : Option CertificateState → ℕ → List Row
confirm_rows state t = (CertConfirmed when is_confirmed state)
    ∷ (CertRevoked when is_lost t state)
    ∷ (BadRequest when is_none state)
    ∷ []

abbrev pub status_rows : Option Deal → Confirmation → List Row
status_rows d c = (BadRequest when nat_lt 1 c.count || is_bad_id d c.id || nat_lt 2 c.status)
    ∷ (BadAlg when not c.has_known_hash)
    ∷ []

-- certHash isn't that of the certificate; or nobody has compared it
abbrev pub compared : To → ℕ → Option Bool → Decision → Decision
compared to place (Some true) next = next
compared to place (Some false) next = Refuses BadCertId to
compared to place None next = Asks place

abbrev pub compared_with : To → (Receipted → Option Bool) → Option Receipted → Decision → Decision
compared_with to matches (Some r) next = compared to r.place (matches r) next
compared_with to matches None next = Refuses BadCertId to

-- No status rejects the certificate; of one status 0 and 1 accept it, and 2 rejects it.
abbrev pub settles : Event → Sent → Confirmation → Decision
settles v s c = if c.count == 0 then made v s (Settled (stamp_by v s) false)
    else unless s.to (status_rows (deal_now v s) c)
    (compared_with s.to c.matches (grant_receipt v.history (tid_of s.header)) (made v s (Settled (stamp_by v s) (nat_lt c.status 2))))

abbrev pub confirms : Event → Sent → Confirmation → Decision
confirms v s c = unless s.to (old_rows (state_now v s) ++ party_rows v.history s.header s.owner.who ++ confirm_rows (deal_certificate v.history (tid_of s.header)) v.time)
    (settles v s c)

-- ---- a pollReq

-- a request waits for an order, was released, or was denied and its requester not told so yet
abbrev pub can_poll : DealState → Bool → Bool
can_poll Held told = true
can_poll Released told = true
can_poll Denied told = not told
can_poll _ told = false

abbrev pub poll_rows : DealState → Bool → List Row
poll_rows state told = (BadRequest when not (can_poll state told)) ∷ []

abbrev pub entry_rows : Option Deal → Polling → List Row
entry_rows d p = (BadRequest when not p.is_one || is_bad_id d p.id) ∷ []

-- a released request is granted as it was held; the requester of a denied one is told so; else it goes on waiting
abbrev pub polled : Event → Sent → DealState → Deal → Change
polled v s Released d = grant_by v s d
polled v s Denied d = Turned (stamp_by v s)
polled v s _ d = Polled (stamp_by v s)

-- where a request began the transaction
abbrev pub poll_made : Event → Sent → DealState → Option Deal → Decision
poll_made v s state (Some d) = made v s (polled v s state d)
poll_made v s state None = Refuses BadRequest s.to

abbrev pub polls : Event → Sent → Polling → Decision
polls v s p = unless s.to (old_rows (state_now v s) ++ party_rows v.history s.header s.owner.who ++ poll_rows (state_now v s) (is_told v.history (tid_of s.header)) ++ entry_rows (deal_now v s) p)
    (poll_made v s (state_now v s) (deal_now v s))

-- ---- an rr

abbrev pub reason_rows : List ℕ → Withdrawal → List Row
reason_rows name w = (BadRequest when not w.is_one || is_none w.reason)
    ∷ (BadCertId when not (is_named name w.certificate.issuer) || is_none w.certificate.serial)
    ∷ []

abbrev pub is_open : Option CertificateState → Bool
is_open (Some (certificates.Open deadline)) = true
is_open (Some certificates.Confirmed) = false
is_open (Some (certificates.Revoked reason)) = false
is_open None = false

abbrev pub is_revoked : Option CertificateState → Bool
is_revoked (Some (certificates.Open deadline)) = false
is_revoked (Some certificates.Confirmed) = false
is_revoked (Some (certificates.Revoked reason)) = true
is_revoked None = false

-- by its requester, by the certificate itself, or by one who may revoke
abbrev pub may_withdraw : History → Owner → ℕ → Bool
may_withdraw h o serial = is_granted_to o.who (find (is_grant_of serial) h) || same_who o.who (Cert serial) || may_revoke o

abbrev pub revoke_rows : History → Owner → ℕ → List Row
revoke_rows h o serial = (BadCertId when is_none (find (is_grant_of serial) h))
    ∷ (NotAuthorized when not (may_withdraw h o serial))
    ∷ (BadRequest when is_open (certificate_state h serial))
    ∷ (CertRevoked when is_revoked (certificate_state h serial))
    ∷ []

abbrev pub withdraws : Event → Sent → Withdrawal → Decision
withdraws v s w = unless s.to (new_rows (state_now v s) ++ reason_rows (name_of v.history) w ++ revoke_rows v.history s.owner (unwrap_or w.certificate.serial 0))
    (made v s (Revoke (stamp_by v s) (unwrap_or w.certificate.serial 0) (unwrap_or w.reason 0)))

-- ---- the whole table

-- what a message is about
abbrev pub about : Event → Sent → Body → Decision
about v s (Enrols e) = enrols v s e
about v s (Confirms c) = confirms v s c
about v s (Polls p) = polls v s p
about v s (Withdraws w) = withdraws v s w
about v s (Nests count) = Refuses BadRequest s.to
about v s OtherBody = Refuses BadRequest s.to

-- a message that stands in the history gets its reply again
abbrev pub repeated : Option ℕ → Decision → Decision
repeated (Some place) next = Repeats place
repeated None next = next

-- a message in form that is about something
abbrev pub passed : Event → Facts → Decision
passed v m = repeated (place_of_digest v.history m.digest) (unless (bare false) (served_rows m)
    (trusted v.history v.time false m (λ o. about v (record { to = guarded false m o; digest = m.digest; header = m.header; owner = o }) m.body)))

-- of a nested message the sender may wrap, and one message is inside
abbrev pub nested_count : Body → ℕ
nested_count (Nests count) = count
nested_count _ = 0

abbrev pub wrap_rows : Facts → Owner → List Row
wrap_rows m o = (NotAuthorized when not (may_wrap o))
    ∷ (BadRequest when not (nested_count m.body == 1))
    ∷ []

-- a message's form: what isn't one is refused to the one, what lacks a part of the header to the other
abbrev pub read : To → To → Facts → Decision → Decision
read unreadable to m next = unless unreadable (form_rows m) (unless to (header_rows m.header) next)

-- The message inside goes through the whole table, under its own sender. What is inside and no message is refused to the outer
-- header.
abbrev pub opened : Event → Letter → Decision
opened v l = if is_nested l.message.body
    then trusted v.history v.time true l.message (λ o. unless (guarded true l.message o) (wrap_rows l.message o)
    (read (guarded true l.message o) (bare false) l.inner (passed v l.inner)))
    else passed v l.message

-- how a message is decided over a history, by the clock's reading and the words drawn
abbrev pub decision : History → Letter → ℕ → List ℕ → Decision
decision h l now w = read (bare false) (bare (is_nested l.message.body)) l.message (opened (record { history = h; time = event_time h now; words = w }) l)
