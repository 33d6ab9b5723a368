-- Messages over small histories, decided by computing, so that a wrong row doesn't check.
use Rattle.std.proofs.Common.{Bor, sym, ap, ◌≡◌, ℕ, Bool, true, false, List, [], ◌∷◌, ◌++◌, Option, Some, None, refl}
use Rattle.std.specs.Prelude.{replicate}
use Rattle.deal_changes.specs.declared.change.Kind.TheVariants.{Mac, Lms}
use Rattle.deal_changes.specs.declared.change.Who.TheVariants.{Listed, Cert}
use Rattle.deal_changes.specs.declared.change.Body4.{Body4}
use Rattle.deal_changes.specs.declared.change.Body4.TheVariants.{Ir, Cr, P10cr, Kur}
use Rattle.deal_changes.specs.declared.change.Credential.{Credential}
use Rattle.deal_changes.specs.declared.change.Settings.{Settings}
use Rattle.deal_changes.specs.declared.change.Stamp.{Stamp}
use Rattle.deal_changes.specs.declared.change.Wish.{Wish}
use Rattle.deal_changes.specs.declared.change.Change.TheVariants.{Found, Enlist, Dismiss, Grant, Hold, Release, Deny, Turned, Polled, Settled, Revoke, Lapse}
use Rattle.deal_changes.specs.Spelling.{u16, u32, u64}
use Rattle.deal_changes.specs.Spki.{is_ca_name}
use Rattle.deal_model.specs.declared.asking.Job.TheVariants.{Enrol}
use Rattle.deal_model.specs.declared.asking.Checked.{Checked}
use Rattle.deal_model.specs.declared.states.Owner.{Owner}
use Rattle.deal_table.specs.Carry.{Carries}
use Rattle.deal_model.specs.Keys.{tree_of, leaves_of, key_id, key_of, is_lms_key}
use Rattle.deal_model.specs.Views.{History, same, owner_of, standing_of, at_first, after_lapse, after_settled, after_revoke, certificate_state, after_grant, transaction_state, last_nonce, leaves_used}
use Rattle.cmp_values.specs.declared.fail_info.FailInfo.TheVariants.{BadAlg, BadMessageCheck, BadRequest, BadTime, BadCertId, BadDataFormat, BadPop, CertRevoked, CertConfirmed, WrongIntegrity, BadRecipientNonce, BadSenderNonce, BadCertTemplate, SignerNotTrusted, TransactionIdInUse, UnsupportedVersion, NotAuthorized, SystemUnavail, DuplicateCertReq}
use Rattle.deal_table.specs.History.{place_of_digest, deal_of, receipt_at, grant_receipt}
use Rattle.deal_table.specs.Message.{Zero, MinusOne, OtherId, Named, Enrolment, Confirmation, Polling, Withdrawal, Body, Enrols, Confirms, Polls, Withdraws, Nests, OtherBody, Header, Facts, Letter}
use Rattle.deal_table.specs.Table.{To, Decision, Makes, Repeats, Refuses, Asks, decision}

-- ---- a service with four credentials

abbrev key : List ℕ
key = 0 ∷ 0 ∷ 0 ∷ 1 ∷ 0 ∷ 0 ∷ 0 ∷ 5 ∷ 0 ∷ 0 ∷ 0 ∷ 4 ∷ replicate 48 1

abbrev settings : Settings
settings = record { time = 0; name = 7 ∷ []; issue_key = key; reply_key = key; wait = 100; skew = 60; rounds = 1; check_after = 1; days = 1 }

-- a reference and its rights; its secret is the reference twice
abbrev listed : ℕ → ℕ → Credential
listed reference rights = record { kind = Mac; kid = reference ∷ []; material = reference ∷ reference ∷ []; rights = rights }

-- 1 may enrol; 2 may enrol, vouch and wrap; 3 may enrol and revoke, and is on hold; 4 may revoke
abbrev service : History
service = Found settings ∷ Enlist 10 (listed 1 1 ∷ listed 2 7 ∷ listed 3 25 ∷ listed 4 8 ∷ []) ∷ []

-- 1 was dismissed
abbrev dismissed : History
dismissed = service ++ Dismiss 20 (Listed Mac (1 ∷ [])) ∷ []

-- ---- messages at the time 1000

abbrev words : List ℕ
words = replicate 32 9

abbrev nonce : List ℕ
nonce = replicate 16 9

abbrev wish : Wish
wish = record { subject = 5 ∷ []; spki = 6 ∷ []; exts = []; implicit = false; mods = false }

-- the message with this digest, of this transaction, by this reference
abbrev message : ℕ → ℕ → ℕ → Body → Facts
message digest tid reference body = record { is_message = true; digest = digest ∷ []; header = record { pvno = 2; sender = 4 ∷ []; kid = reference ∷ []; tid = Some (tid ∷ []); sender_nonce = Some (replicate 16 3); recip_nonce = Some nonce; time = Some 1000; kind = Some Mac }; is_protected = true; verifies = same (reference ∷ reference ∷ []); body = body }

abbrev request : Enrolment
request = record { body = Ir; is_one = true; has_subject = true; has_key = true; has_bad_field = false; issuer = None; has_bad_extension = false; has_bad_alg = false; old = None; wish = wish; by_ra = false; is_proven = true }

abbrev accepting : Confirmation
accepting = record { count = 1; id = Zero; status = 0; has_known_hash = true; matches = λ r. Some true }

abbrev poll : Polling
poll = record { is_one = true; id = Zero }

abbrev withdrawal : Withdrawal
withdrawal = record { is_one = true; reason = Some 4; certificate = record { issuer = Some (7 ∷ []); serial = Some 3 } }

-- ---- how they are decided

abbrev stamp : ℕ → ℕ → ℕ → ℕ → Stamp
stamp digest tid reference time = record { tid = tid ∷ []; digest = digest ∷ []; who = Listed Mac (reference ∷ []); sender = 4 ∷ []; pvno = 2; sender_nonce = replicate 16 3; words = words; time = time; leaf = None }

-- refused without protection, and under the secret of the reference
abbrev bare : To
bare = record { outer = false; guard = None }

abbrev guarded : ℕ → To
guarded reference = record { outer = false; guard = Some (record { kid = reference ∷ []; key = reference ∷ reference ∷ [] }) }

abbrev outside : To → To
outside to = record to { outer = true }

-- 1 was granted a certificate at this time, which waits 100 seconds for its confirmation
abbrev opened : ℕ → History
opened time = service ++ Grant (stamp 1 1 1 time) Ir wish 3 2 ∷ []

-- and accepted it, or rejected it
abbrev settled : Bool → History
settled accepted = opened 901 ++ Settled (stamp 2 1 1 950) accepted ∷ []

-- a request of 3 waits for an order; was released; was denied; and 3 was told so
abbrev held : Body4 → History
held body = service ++ Hold (stamp 1 1 3 500) body wish ∷ []

abbrev released : History
released = held Cr ++ Release 600 (1 ∷ []) ∷ []

abbrev denied : History
denied = held Cr ++ Deny 600 (1 ∷ []) ∷ []

abbrev told : History
told = denied ++ Turned (stamp 2 1 3 700) ∷ []

decided_letter : History → Letter → Decision
unfolding place_of_digest deal_of receipt_at grant_receipt owner_of standing_of at_first after_lapse after_settled after_revoke certificate_state after_grant transaction_state last_nonce leaves_used leaves_of tree_of u16 u32 u64
decided_letter h l = decision h l 1000 words

decided : History → Facts → Decision
unfolding decided_letter
decided h m = decided_letter h (record { message = m; inner = m })

-- with another header
abbrev headed : Facts → (Header → Header) → Facts
headed m change = record m { header = change m.header }

-- the key that is asked for is another one than this
abbrev IsNew : List ℕ → Type 0
IsNew k = same (key_id k) (key_id (key_of (6 ∷ []))) ≡ false

-- ---- the form

no_message : decided service (record (message 1 1 1 (Enrols request)) { is_message = false }) ≡ Refuses BadDataFormat bare
unfolding decided
no_message = refl

version_1 : decided service (headed (message 1 1 1 (Enrols request)) (λ head. record head { pvno = 1 })) ≡ Refuses UnsupportedVersion bare
unfolding decided
version_1 = refl

no_tid : decided service (headed (message 1 1 1 (Enrols request)) (λ head. record head { tid = None })) ≡ Refuses BadDataFormat bare
unfolding decided
no_tid = refl

no_nonce : decided service (headed (message 1 1 1 (Enrols request)) (λ head. record head { sender_nonce = None })) ≡ Refuses BadSenderNonce bare
unfolding decided
no_nonce = refl

other_body : decided service (message 1 1 1 OtherBody) ≡ Refuses BadRequest bare
unfolding decided
other_body = refl

-- ---- a message that stands in the history

repeats : decided (settled true) (message 2 1 1 (Confirms accepting)) ≡ Repeats 4
unfolding decided
repeats = refl

repeats_unread : decided (settled true) (record (message 2 1 1 OtherBody) { is_protected = false }) ≡ Repeats 4
unfolding decided
repeats_unread = refl

-- ---- protection, sender and time

unprotected : decided service (record (message 1 1 1 (Enrols request)) { is_protected = false }) ≡ Refuses BadMessageCheck bare
unfolding decided
unprotected = refl

other_algorithm : decided service (headed (message 1 1 1 (Enrols request)) (λ head. record head { kind = None })) ≡ Refuses BadAlg bare
unfolding decided
other_algorithm = refl

nobody : decided service (message 1 1 9 (Enrols request)) ≡ Refuses SignerNotTrusted bare
unfolding decided
nobody = refl

other_kind : decided service (headed (message 1 1 1 (Enrols request)) (λ head. record head { kind = Some Lms })) ≡ Refuses WrongIntegrity bare
unfolding decided
other_kind = refl

barred : decided dismissed (message 1 1 1 (Enrols request)) ≡ Refuses NotAuthorized bare
unfolding decided
barred = refl

wrong_secret : decided service (record (message 1 1 1 (Enrols request)) { verifies = λ k. false }) ≡ Refuses BadMessageCheck bare
unfolding decided
wrong_secret = refl

early : decided service (headed (message 1 1 1 (Enrols request)) (λ head. record head { time = Some 939 })) ≡ Refuses BadTime (guarded 1)
unfolding decided
early = refl

late : decided service (headed (message 1 1 1 (Enrols request)) (λ head. record head { time = Some 1061 })) ≡ Refuses BadTime (guarded 1)
unfolding decided
late = refl

in_time : IsNew key → decided service (headed (message 1 1 1 (Enrols request)) (λ head. record head { time = Some 940 })) ≡ Makes (Grant (stamp 1 1 1 1000) Ir wish 3 2)
unfolding decided
in_time new = rw new refl

without_time : IsNew key → decided service (headed (message 1 1 1 (Enrols request)) (λ head. record head { time = None })) ≡ Makes (Grant (stamp 1 1 1 1000) Ir wish 3 2)
unfolding decided
without_time new = rw new refl

-- ---- requests

granted : IsNew key → decided service (message 1 1 1 (Enrols request)) ≡ Makes (Grant (stamp 1 1 1 1000) Ir wish 3 2)
unfolding decided
granted new = rw new refl

held_back : IsNew key → decided service (message 1 1 3 (Enrols request)) ≡ Makes (Hold (stamp 1 1 3 1000) Ir wish)
unfolding decided
held_back new = rw new refl

in_use : decided (opened 901) (message 3 1 1 (Enrols request)) ≡ Refuses TransactionIdInUse (guarded 1)
unfolding decided
in_use = refl

two_requests : decided service (message 1 1 1 (Enrols (record request { is_one = false }))) ≡ Refuses BadRequest (guarded 1)
unfolding decided
two_requests = refl

may_not_enrol : decided service (message 1 1 4 (Enrols request)) ≡ Refuses NotAuthorized (guarded 4)
unfolding decided
may_not_enrol = refl

kur_by_secret : decided service (message 1 1 1 (Enrols (record request { body = Kur }))) ≡ Refuses NotAuthorized (guarded 1)
unfolding decided
kur_by_secret = refl

no_subject : decided service (message 1 1 1 (Enrols (record request { has_subject = false }))) ≡ Refuses BadCertTemplate (guarded 1)
unfolding decided
no_subject = refl

no_key : decided service (message 1 1 1 (Enrols (record request { has_key = false; has_bad_alg = true }))) ≡ Refuses BadCertTemplate (guarded 1)
unfolding decided
no_key = refl

bad_field : decided service (message 1 1 1 (Enrols (record request { has_bad_field = true }))) ≡ Refuses BadCertTemplate (guarded 1)
unfolding decided
bad_field = refl

other_issuer : decided service (message 1 1 1 (Enrols (record request { issuer = Some (8 ∷ []) }))) ≡ Refuses BadCertTemplate (guarded 1)
unfolding decided
other_issuer = refl

own_issuer : IsNew key → decided service (message 1 1 1 (Enrols (record request { issuer = Some (7 ∷ []) }))) ≡ Makes (Grant (stamp 1 1 1 1000) Ir wish 3 2)
unfolding decided
own_issuer new = rw new refl

bad_extension : decided service (message 1 1 1 (Enrols (record request { has_bad_extension = true }))) ≡ Refuses BadCertTemplate (guarded 1)
unfolding decided
bad_extension = refl

bad_algorithm : decided service (message 1 1 1 (Enrols (record request { has_bad_alg = true; is_proven = false }))) ≡ Refuses BadAlg (guarded 1)
unfolding decided
bad_algorithm = refl

unproven : IsNew key → decided service (message 1 1 1 (Enrols (record request { is_proven = false }))) ≡ Refuses BadPop (guarded 1)
unfolding decided
unproven new = rw new refl

vouched : IsNew key → decided service (message 1 1 2 (Enrols (record request { by_ra = true; is_proven = false }))) ≡ Makes (Grant (stamp 1 1 2 1000) Ir wish 3 2)
unfolding decided
vouched new = rw new refl

may_not_vouch : IsNew key → decided service (message 1 1 1 (Enrols (record request { by_ra = true }))) ≡ Refuses BadPop (guarded 1)
unfolding decided
may_not_vouch new = rw new refl

no_leaf : IsNew key → IsNew [] → decided (Found (record settings { issue_key = [] }) ∷ Enlist 10 (listed 1 1 ∷ []) ∷ []) (message 1 1 1 (Enrols request)) ≡ Refuses SystemUnavail (guarded 1)
unfolding decided
no_leaf new other = rw (new, other) refl

taken : same (key_id key) (key_id (key_of (6 ∷ []))) ≡ true → decided service (message 1 1 1 (Enrols (record request { is_proven = false }))) ≡ Refuses DuplicateCertReq (guarded 1)
unfolding decided
taken is = rw is refl

-- ---- confirmations

accepted : decided (opened 901) (message 2 1 1 (Confirms accepting)) ≡ Makes (Settled (stamp 2 1 1 1000) true)
unfolding decided
accepted = refl

accepted_with_changes : decided (opened 901) (message 2 1 1 (Confirms (record accepting { status = 1 }))) ≡ Makes (Settled (stamp 2 1 1 1000) true)
unfolding decided
accepted_with_changes = refl

rejected : decided (opened 901) (message 2 1 1 (Confirms (record accepting { status = 2 }))) ≡ Makes (Settled (stamp 2 1 1 1000) false)
unfolding decided
rejected = refl

rejected_by_none : decided (opened 901) (message 2 1 1 (Confirms (record accepting { count = 0; id = OtherId; status = 3; has_known_hash = false; matches = λ r. None }))) ≡ Makes (Settled (stamp 2 1 1 1000) false)
unfolding decided
rejected_by_none = refl

two_statuses : decided (opened 901) (message 2 1 1 (Confirms (record accepting { count = 2 }))) ≡ Refuses BadRequest (guarded 1)
unfolding decided
two_statuses = refl

status_3 : decided (opened 901) (message 2 1 1 (Confirms (record accepting { status = 3 }))) ≡ Refuses BadRequest (guarded 1)
unfolding decided
status_3 = refl

id_of_another_form : decided (opened 901) (message 2 1 1 (Confirms (record accepting { id = MinusOne }))) ≡ Refuses BadRequest (guarded 1)
unfolding decided
id_of_another_form = refl

other_hash : decided (opened 901) (message 2 1 1 (Confirms (record accepting { has_known_hash = false; matches = λ r. Some false }))) ≡ Refuses BadAlg (guarded 1)
unfolding decided
other_hash = refl

other_certificate : decided (opened 901) (message 2 1 1 (Confirms (record accepting { matches = λ r. Some false }))) ≡ Refuses BadCertId (guarded 1)
unfolding decided
other_certificate = refl

not_compared : decided (opened 901) (message 2 1 1 (Confirms (record accepting { matches = λ r. None }))) ≡ Asks 3
unfolding decided
not_compared = refl

at_the_deadline : decided (opened 900) (message 2 1 1 (Confirms accepting)) ≡ Refuses CertRevoked (guarded 1)
unfolding decided
at_the_deadline = refl

lapsed : decided (opened 901 ++ Lapse 1001 (1 ∷ []) ∷ []) (message 2 1 1 (Confirms accepting)) ≡ Refuses CertRevoked (guarded 1)
unfolding decided
lapsed = refl

confirmed_already : decided (settled true) (message 3 1 1 (Confirms accepting)) ≡ Refuses CertConfirmed (guarded 1)
unfolding decided
confirmed_already = refl

rejected_already : decided (settled false) (message 3 1 1 (Confirms accepting)) ≡ Refuses CertRevoked (guarded 1)
unfolding decided
rejected_already = refl

no_transaction : decided (opened 901) (message 2 5 1 (Confirms accepting)) ≡ Refuses BadRequest (guarded 1)
unfolding decided
no_transaction = refl

no_certificate_yet : decided (held Ir) (message 2 1 3 (Confirms accepting)) ≡ Refuses BadRequest (guarded 3)
unfolding decided
no_certificate_yet = refl

not_its_sender : decided (opened 901) (message 2 1 2 (Confirms accepting)) ≡ Refuses NotAuthorized (guarded 2)
unfolding decided
not_its_sender = refl

without_last_nonce : decided (opened 901) (headed (message 2 1 1 (Confirms accepting)) (λ head. record head { recip_nonce = None })) ≡ Refuses BadRecipientNonce (guarded 1)
unfolding decided
without_last_nonce = refl

other_nonce : decided (opened 901) (headed (message 2 1 1 (Confirms accepting)) (λ head. record head { recip_nonce = Some words })) ≡ Refuses BadRecipientNonce (guarded 1)
unfolding decided
other_nonce = refl

-- ---- polls

polled : decided (held Cr) (message 2 1 3 (Polls poll)) ≡ Makes (Polled (stamp 2 1 3 1000))
unfolding decided
polled = refl

polled_released : decided released (message 2 1 3 (Polls poll)) ≡ Makes (Grant (stamp 2 1 3 1000) Cr wish 3 2)
unfolding decided
polled_released = refl

polled_denied : decided denied (message 2 1 3 (Polls poll)) ≡ Makes (Turned (stamp 2 1 3 1000))
unfolding decided
polled_denied = refl

polled_told : decided told (message 3 1 3 (Polls poll)) ≡ Refuses BadRequest (guarded 3)
unfolding decided
polled_told = refl

polled_granted : decided (opened 901) (message 2 1 1 (Polls poll)) ≡ Refuses BadRequest (guarded 1)
unfolding decided
polled_granted = refl

polled_nothing : decided service (message 2 1 3 (Polls poll)) ≡ Refuses BadRequest (guarded 3)
unfolding decided
polled_nothing = refl

polled_by_another : decided (held Cr) (message 2 1 1 (Polls poll)) ≡ Refuses NotAuthorized (guarded 1)
unfolding decided
polled_by_another = refl

two_entries : decided (held Cr) (message 2 1 3 (Polls (record poll { is_one = false }))) ≡ Refuses BadRequest (guarded 3)
unfolding decided
two_entries = refl

polled_id : decided (held Cr) (message 2 1 3 (Polls (record poll { id = MinusOne }))) ≡ Refuses BadRequest (guarded 3)
unfolding decided
polled_id = refl

polled_p10cr : decided (held P10cr) (message 2 1 3 (Polls (record poll { id = MinusOne }))) ≡ Makes (Polled (stamp 2 1 3 1000))
unfolding decided
polled_p10cr = refl

-- ---- revocations

revoked : decided (settled true) (message 5 5 1 (Withdraws withdrawal)) ≡ Makes (Revoke (stamp 5 5 1 1000) 3 4)
unfolding decided
revoked = refl

revoked_by_right : decided (settled true) (message 5 5 4 (Withdraws withdrawal)) ≡ Makes (Revoke (stamp 5 5 4 1000) 3 4)
unfolding decided
revoked_by_right = refl

may_not_revoke : decided (settled true) (message 5 5 2 (Withdraws withdrawal)) ≡ Refuses NotAuthorized (guarded 2)
unfolding decided
may_not_revoke = refl

revoked_open : decided (opened 900) (message 5 5 1 (Withdraws withdrawal)) ≡ Refuses BadRequest (guarded 1)
unfolding decided
revoked_open = refl

revoked_already : decided (settled false) (message 5 5 1 (Withdraws withdrawal)) ≡ Refuses CertRevoked (guarded 1)
unfolding decided
revoked_already = refl

revoked_twice : decided (settled true ++ Revoke (stamp 6 6 4 960) 3 1 ∷ []) (message 5 5 1 (Withdraws withdrawal)) ≡ Refuses CertRevoked (guarded 1)
unfolding decided
revoked_twice = refl

revoked_nothing : decided (service) (message 5 5 1 (Withdraws withdrawal)) ≡ Refuses BadCertId (guarded 1)
unfolding decided
revoked_nothing = refl

revoked_in_use : decided (settled true) (message 5 1 1 (Withdraws withdrawal)) ≡ Refuses TransactionIdInUse (guarded 1)
unfolding decided
revoked_in_use = refl

no_reason : decided (settled true) (message 5 5 1 (Withdraws (record withdrawal { reason = None }))) ≡ Refuses BadRequest (guarded 1)
unfolding decided
no_reason = refl

two_revocations : decided (settled true) (message 5 5 1 (Withdraws (record withdrawal { is_one = false }))) ≡ Refuses BadRequest (guarded 1)
unfolding decided
two_revocations = refl

revoked_elsewhere : decided (settled true) (message 5 5 1 (Withdraws (record withdrawal { certificate = record { issuer = Some (8 ∷ []); serial = Some 3 } }))) ≡ Refuses BadCertId (guarded 1)
unfolding decided
revoked_elsewhere = refl

revoked_no_issuer : decided (settled true) (message 5 5 1 (Withdraws (record withdrawal { certificate = record { issuer = None; serial = Some 3 } }))) ≡ Refuses BadCertId (guarded 1)
unfolding decided
revoked_no_issuer = refl

revoked_no_serial : decided (settled true) (message 5 5 1 (Withdraws (record withdrawal { certificate = record { issuer = Some (7 ∷ []); serial = None } }))) ≡ Refuses BadCertId (guarded 1)
unfolding decided
revoked_no_serial = refl

-- ---- nested messages

wrapped : IsNew key → decided_letter service (record { message = message 0 0 2 (Nests 1); inner = message 1 1 1 (Enrols request) }) ≡ Makes (Grant (stamp 1 1 1 1000) Ir wish 3 2)
unfolding decided_letter
wrapped new = rw new refl

may_not_wrap : decided_letter service (record { message = message 0 0 1 (Nests 1); inner = message 1 1 1 (Enrols request) }) ≡ Refuses NotAuthorized (outside (guarded 1))
unfolding decided_letter
may_not_wrap = refl

two_inside : decided_letter service (record { message = message 0 0 2 (Nests 2); inner = message 1 1 1 (Enrols request) }) ≡ Refuses BadRequest (outside (guarded 2))
unfolding decided_letter
two_inside = refl

outer_unprotected : decided_letter service (record { message = record (message 0 0 2 (Nests 1)) { is_protected = false }; inner = message 1 1 1 (Enrols request) }) ≡ Refuses BadMessageCheck (outside bare)
unfolding decided_letter
outer_unprotected = refl

outer_version : decided_letter service (record { message = headed (message 0 0 2 (Nests 1)) (λ head. record head { pvno = 1 }); inner = message 1 1 1 (Enrols request) }) ≡ Refuses UnsupportedVersion (outside bare)
unfolding decided_letter
outer_version = refl

outer_late : decided_letter service (record { message = headed (message 0 0 2 (Nests 1)) (λ head. record head { time = Some 2000 }); inner = message 1 1 1 (Enrols request) }) ≡ Refuses BadTime (outside (guarded 2))
unfolding decided_letter
outer_late = refl

no_message_inside : decided_letter service (record { message = message 0 0 2 (Nests 1); inner = record (message 1 1 1 (Enrols request)) { is_message = false } }) ≡ Refuses BadDataFormat (outside (guarded 2))
unfolding decided_letter
no_message_inside = refl

inner_version : decided_letter service (record { message = message 0 0 2 (Nests 1); inner = headed (message 1 1 1 (Enrols request)) (λ head. record head { pvno = 1 }) }) ≡ Refuses UnsupportedVersion bare
unfolding decided_letter
inner_version = refl

nested_inside : decided_letter service (record { message = message 0 0 2 (Nests 1); inner = message 1 1 2 (Nests 1) }) ≡ Refuses BadRequest bare
unfolding decided_letter
nested_inside = refl

inner_late : decided_letter service (record { message = message 0 0 2 (Nests 1); inner = headed (message 1 1 1 (Enrols request)) (λ head. record head { time = Some 2000 }) }) ≡ Refuses BadTime (guarded 1)
unfolding decided_letter
inner_late = refl

inner_unprotected : decided_letter service (record { message = message 0 0 2 (Nests 1); inner = record (message 1 1 1 (Enrols request)) { is_protected = false } }) ≡ Refuses BadMessageCheck bare
unfolding decided_letter
inner_unprotected = refl

-- ---- a certificate as the sender

-- 1 was granted a certificate, which was confirmed at once where that was asked for
abbrev certified : Settings → Bool → History
certified with implicit = Found with ∷ Enlist 10 (listed 1 1 ∷ []) ∷ Grant (stamp 1 1 1 500) Ir (record wish { implicit = implicit }) 3 2 ∷ []

-- a key update under the certificate's key, for another key
abbrev update : Option Named → Facts
update old = record (message 2 2 11 (Enrols (record request { body = Kur; old = old; wish = record wish { spki = 9 ∷ [] } }))) { header = record (message 2 2 11 OtherBody).header { kind = Some Lms }; verifies = λ k. true }

-- the certificate's key is an HSS/LMS key with the identifier 11
abbrev IsEleven : Type 0
IsEleven = (is_lms_key (6 ∷ []) ≡ true) × (same (key_id (key_of (6 ∷ []))) (11 ∷ []) ≡ true)

-- the other key stands nowhere
abbrev IsOther : Type 0
IsOther = (same (key_id key) (key_id (key_of (9 ∷ []))) ≡ false) × (same (key_id (key_of (6 ∷ []))) (key_id (key_of (9 ∷ []))) ≡ false)

abbrev update_stamp : Stamp
update_stamp = record (stamp 2 2 11 1000) { who = Cert 3; leaf = Some 0 }

updated : IsEleven → IsOther → decided (certified settings true) (update None) ≡ Makes (Grant update_stamp Kur (record wish { spki = 9 ∷ [] }) 4 3)
unfolding decided
updated is other = rw (is.0, is.1) (rw (is.0, is.1, other.0, other.1) refl)

updated_old : IsEleven → IsOther → decided (certified settings true) (update (Some (record { issuer = Some (7 ∷ []); serial = Some 3 }))) ≡ Makes (Grant update_stamp Kur (record wish { spki = 9 ∷ [] }) 4 3)
unfolding decided
updated_old is other = rw (is.0, is.1) (rw (is.0, is.1, other.0, other.1) refl)

other_old : IsEleven → decided (certified settings true) (update (Some (record { issuer = Some (7 ∷ []); serial = Some 4 }))) ≡ Refuses BadCertId bare
unfolding decided
other_old is = rw (is.0, is.1) (rw (is.0, is.1) refl)

old_elsewhere : IsEleven → decided (certified settings true) (update (Some (record { issuer = Some (8 ∷ []); serial = Some 3 }))) ≡ Refuses BadCertId bare
unfolding decided
old_elsewhere is = rw (is.0, is.1) (rw (is.0, is.1) refl)

not_confirmed : IsEleven → decided (certified settings false) (update None) ≡ Refuses NotAuthorized bare
unfolding decided
not_confirmed is = rw (is.0, is.1) (rw (is.0, is.1) refl)

over : IsEleven → decided (certified (record settings { days = 0 }) true) (update None) ≡ Refuses NotAuthorized bare
unfolding decided
over is = rw (is.0, is.1) (rw (is.0, is.1) refl)

revokes_itself : IsEleven → decided (certified settings true) (record (update None) { body = Withdraws withdrawal }) ≡ Makes (Revoke update_stamp 3 4)
unfolding decided
revokes_itself is = rw (is.0, is.1) (rw (is.0, is.1) refl)

-- ---- what was checked carries a message

-- a message that nests no other one
alone : Facts → Letter
alone m = record { message = m; inner = m }

-- the service under this name
abbrev named : List ℕ → History
named n = Found (record settings { name = n }) ∷ Enlist 10 (listed 1 1 ∷ []) ∷ []

-- what is made of the request of 1
abbrev checked : Bor (List ℕ) → Checked
checked sender = record {
  ask = record { digest = 1 ∷ []; tid = 1 ∷ []; kind = Some Mac; kid = 1 ∷ []; outer = None };
  who = Listed Mac (1 ∷ []);
  key = 1 ∷ 1 ∷ [];
  message_time = Some 1000;
  job = Enrol Ir wish;
  echo = record { pvno = 2; sender = sender; tid = Some (1 ∷ []); nonce = Some (replicate 16 3) };
  recip_nonce = Some nonce;
  proven = true;
  minus_one = false;
  hash_ok = None;
  outer_time = None;
  outer_key = None;
}

abbrev owner : Owner
owner = record { who = Listed Mac (1 ∷ []); key = 1 ∷ 1 ∷ []; rights = 1 }

carried : (n : List ℕ) (sender : Bor (List ℕ)) → is_ca_name n ≡ true → sender.now ≡ 4 ∷ [] → Carries (alone (message 1 1 1 (Enrols request))) (checked sender) (named n)
unfolding owner_of alone
carried n sender name same_sender = record {
  founded = (record settings { name = n }, refl, name);
  outside = record { form = refl; header = refl };
  readable = record { form = refl; header = refl };
  digest = refl;
  header = ap (λ (s : List ℕ). record (message 1 1 1 OtherBody).header { sender = s }) (sym same_sender);
  inside = refl;
  job = record { owner = owner; protection = record { stands = refl; protected = refl; verified = refl }; key = refl; sender = refl; job = (refl, refl, refl, refl) };
}
