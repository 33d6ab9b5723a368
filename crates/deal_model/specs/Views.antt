-- What a history answers. A history is a list of changes, the first one first. Each answer is a filter or a first match over
-- the whole list.
use Rattle.std.specs.Prelude.{◌≡◌, ℕ, ◌+◌, ◌-◌, ◌*◌, ◌≤◌, Bool, true, false, not, ◌&&◌, ◌||◌, ◌==◌, nat_le, List, [], ◌∷◌, take, reverse, Option, Some, None, is_some, unwrap_or, option_map, option_and_then, find, count_by, if◌then◌else◌, ◌⊎◌}
use Rattle.std.specs.List.{list_any, AllByRecursion}
use Rattle.std.specs.Str.{bytes_eq}
use Rattle.deal_changes.specs.declared.change.Kind.{Kind}
use Rattle.deal_changes.specs.declared.change.Kind.TheVariants.{Mac, Lms}
use Rattle.deal_changes.specs.declared.change.Who.{Who}
use Rattle.deal_changes.specs.declared.change.Who.TheVariants.{Listed, Cert}
use Rattle.deal_changes.specs.declared.change.Credential.{Credential}
use Rattle.deal_changes.specs.declared.change.Stamp.{Stamp}
use Rattle.deal_changes.specs.declared.change.Wish.{Wish}
use Rattle.deal_changes.specs.declared.change.Settings.{Settings}
use Rattle.deal_changes.specs.declared.change.Change.{Change}
use Rattle.deal_changes.specs.declared.change.Change.TheVariants.{Found, Enlist, Dismiss, Grant, Hold, Release, Deny, Turned, Settled, Revoke, Lapse}
use Rattle.deal_changes.specs.Times.{time_of_change, stamp_of}
use Rattle.deal_model.specs.declared.states.Key.{Key}
use Rattle.deal_model.specs.declared.states.Key.TheVariants.{Issue, Reply}
use Rattle.deal_model.specs.declared.states.Reason.TheVariants.{Rejected, Timeout, Asked}
use Rattle.deal_model.specs.declared.states.CertificateState.{CertificateState}
use Rattle.deal_model.specs.declared.states.CertificateState.TheVariants.{Open, Confirmed, Revoked}
use Rattle.deal_model.specs.declared.states.DealState.{DealState}
use Rattle.deal_model.specs.declared.states.DealState.TheVariants as deals
use Rattle.deal_model.specs.declared.states.Owner.{Owner}
use Rattle.deal_model.specs.declared.states.Standing.{Standing}
use Rattle.deal_model.specs.declared.states.Standing.TheVariants.{Unknown, OtherKind, Barred, Good}
use Rattle.deal_model.specs.Limits.{latest_time}
use Rattle.deal_model.specs.Keys.{key_id, key_of, is_lms_key}

abbrev pub History : Type 0
History = List Change

-- whether two octet strings are the same
abbrev pub same : List ℕ → List ℕ → Bool
same a b = bytes_eq a b

-- ---- time and settings

-- the time of the last change
abbrev pub time_of : History → ℕ
time_of [] = 0
time_of (c ∷ []) = time_of_change c
time_of (c ∷ d ∷ h) = time_of (d ∷ h)

abbrev pub is_empty : History → Bool
is_empty [] = true
is_empty (c ∷ h) = false

abbrev pub no_settings : Settings
no_settings = record { time = 0; name = []; issue_key = []; reply_key = []; wait = 0; skew = 0; rounds = 0; check_after = 0; days = 0 }

abbrev pub founding_in : Change → Option Settings
founding_in (Found s) = Some s
founding_in _ = None

-- what the first change has set
abbrev pub founding : History → Option Settings
founding [] = None
founding (c ∷ h) = founding_in c

abbrev pub settings_of : History → Settings
settings_of h = unwrap_or (founding h) no_settings

-- the last second at which a certificate of this time is valid
abbrev pub not_after : History → ℕ → ℕ
not_after h time = time + 86400 * (settings_of h).days - 1

-- a change is not later than any clock may say
abbrev pub IsTimely : Change → Type 0
IsTimely c = time_of_change c ≤ latest_time

abbrev pub AreTimely : History → Type 0
AreTimely h = AllByRecursion IsTimely h

-- ---- tests of one change

abbrev pub is_found : Change → Bool
is_found (Found s) = true
is_found _ = false

abbrev pub is_grant : Change → Bool
is_grant (Grant s b w serial leaf) = true
is_grant _ = false

abbrev pub is_grant_for : List ℕ → Change → Bool
is_grant_for tid (Grant s b w serial leaf) = same s.tid tid
is_grant_for tid _ = false

abbrev pub is_hold_for : List ℕ → Change → Bool
is_hold_for tid (Hold s b w) = same s.tid tid
is_hold_for tid _ = false

abbrev pub is_release_for : List ℕ → Change → Bool
is_release_for tid (Release time id) = same id tid
is_release_for tid _ = false

abbrev pub is_deny_for : List ℕ → Change → Bool
is_deny_for tid (Deny time id) = same id tid
is_deny_for tid _ = false

abbrev pub is_turned_for : List ℕ → Change → Bool
is_turned_for tid (Turned s) = same s.tid tid
is_turned_for tid _ = false

abbrev pub is_settled_for : List ℕ → Change → Bool
is_settled_for tid (Settled s accepted) = same s.tid tid
is_settled_for tid _ = false

abbrev pub is_revoke_for : List ℕ → Change → Bool
is_revoke_for tid (Revoke s serial reason) = same s.tid tid
is_revoke_for tid _ = false

abbrev pub is_lapse_for : List ℕ → Change → Bool
is_lapse_for tid (Lapse time id) = same id tid
is_lapse_for tid _ = false

-- the Grant of the certificate with this serial number, and a revocation of it
abbrev pub is_grant_of : ℕ → Change → Bool
is_grant_of n (Grant s b w serial leaf) = serial == n
is_grant_of n _ = false

abbrev pub is_revoke_of : ℕ → Change → Bool
is_revoke_of n (Revoke s serial reason) = serial == n
is_revoke_of n _ = false

abbrev pub stamp_has : (Stamp → Bool) → Option Stamp → Bool
stamp_has test (Some s) = test s
stamp_has test None = false

-- a change of the message with this digest
abbrev pub has_digest : List ℕ → Change → Bool
has_digest digest c = stamp_has (λ s. same s.digest digest) (stamp_of c)

-- a change whose reply is signed
abbrev pub has_leaf : Change → Bool
has_leaf c = stamp_has (λ s. is_some s.leaf) (stamp_of c)

-- a change of a message of this transaction
abbrev pub is_stamped_for : List ℕ → Change → Bool
is_stamped_for tid c = stamp_has (λ s. same s.tid tid) (stamp_of c)

-- ---- credentials

abbrev pub same_kind : Kind → Kind → Bool
same_kind Mac Mac = true
same_kind Mac Lms = false
same_kind Lms Mac = false
same_kind Lms Lms = true

abbrev pub other_kind : Kind → Kind
other_kind Mac = Lms
other_kind Lms = Mac

-- the credential with this kind and identifier
abbrev pub is_entry : Kind → List ℕ → Credential → Bool
is_entry kind kid c = same_kind c.kind kind && same c.kid kid

-- the credentials that a change lists
abbrev pub entries_of : Change → List Credential
entries_of (Enlist time list) = list
entries_of _ = []

-- a change that lists the credential
abbrev pub lists : Kind → List ℕ → Change → Bool
lists kind kid c = list_any (is_entry kind kid) (entries_of c)

-- a credential that was ever listed
abbrev pub is_listed : History → Kind → List ℕ → Bool
is_listed h kind kid = list_any (lists kind kid) h

abbrev pub is_listed_as : Kind → List ℕ → Who → Bool
is_listed_as kind kid (Listed k id) = same_kind k kind && same id kid
is_listed_as kind kid (Cert serial) = false

abbrev pub is_dismiss_of : Kind → List ℕ → Change → Bool
is_dismiss_of kind kid (Dismiss time w) = is_listed_as kind kid w
is_dismiss_of kind kid _ = false

abbrev pub is_dismissed : History → Kind → List ℕ → Bool
is_dismissed h kind kid = list_any (is_dismiss_of kind kid) h

-- a change in which this key identifier stands
abbrev pub takes_key : List ℕ → Change → Bool
takes_key id (Found s) = same (key_id s.issue_key) id || same (key_id s.reply_key) id
takes_key id (Enlist time list) = list_any (is_entry Lms id) list
takes_key id (Grant s b w serial leaf) = same (key_id (key_of w.spki)) id
takes_key id (Hold s b w) = same (key_id (key_of w.spki)) id
takes_key id _ = false

-- a key identifier stands somewhere
abbrev pub is_key_taken : History → List ℕ → Bool
is_key_taken h id = list_any (takes_key id) h

-- ---- certificates

-- The state of a certificate, the first that applies: it was revoked; its requester settled it; it lapsed; implicit
-- confirmation was asked for; else it is open.
unfoldable pub at_first : History → Stamp → Wish → CertificateState
at_first h s w = if w.implicit then Confirmed else Open (s.time + (settings_of h).wait)

unfoldable pub after_lapse : Bool → CertificateState → CertificateState
after_lapse lapsed otherwise = if lapsed then Revoked Timeout else otherwise

unfoldable pub after_settled : Option Change → CertificateState → CertificateState
after_settled (Some (Settled s accepted)) otherwise = if accepted then Confirmed else Revoked Rejected
after_settled _ otherwise = otherwise

unfoldable pub after_revoke : Option Change → CertificateState → CertificateState
after_revoke (Some (Revoke s serial reason)) otherwise = Revoked (Asked reason)
after_revoke _ otherwise = otherwise

abbrev pub state_of_grant : History → ℕ → Stamp → Wish → CertificateState
state_of_grant h serial s w = after_revoke (find (is_revoke_of serial) h) (after_settled (find (is_settled_for s.tid) h) (after_lapse (list_any (is_lapse_for s.tid) h) (at_first h s w)))

abbrev pub state_by_change : History → Change → Option CertificateState
state_by_change h (Grant s b w serial leaf) = Some (state_of_grant h serial s w)
state_by_change h _ = None

-- how the certificate with this serial number stands; None where none was granted
unfoldable pub certificate_state : History → ℕ → Option CertificateState
certificate_state h serial = option_and_then (state_by_change h) (find (is_grant_of serial) h)

-- ---- transactions

abbrev pub open_or_closed : ℕ → Option CertificateState → DealState
open_or_closed serial (Some (Open deadline)) = deals.Open serial deadline
open_or_closed serial (Some Confirmed) = deals.Closed
open_or_closed serial (Some (Revoked reason)) = deals.Closed
open_or_closed serial None = deals.Closed

unfoldable pub after_grant : History → Option Change → DealState → DealState
after_grant h (Some (Grant s b w serial leaf)) otherwise = open_or_closed serial (certificate_state h serial)
after_grant h _ otherwise = otherwise

abbrev pub ungranted_state : History → List ℕ → DealState
ungranted_state h tid = if list_any (is_deny_for tid) h then deals.Denied
    else (if list_any (is_release_for tid) h then deals.Released
    else (if list_any (is_hold_for tid) h then deals.Held
    else (if list_any (is_revoke_for tid) h then deals.Other else deals.Unused)))

-- How a transaction stands, the first that applies: a certificate was granted; it was denied; it was released; it was held;
-- it revoked a certificate; nothing was.
unfoldable pub transaction_state : History → List ℕ → DealState
transaction_state h tid = after_grant h (find (is_grant_for tid) h) (ungranted_state h tid)

-- a denied transaction whose requester was told so
abbrev pub is_told : History → List ℕ → Bool
is_told h tid = list_any (is_turned_for tid) h

-- the senderNonce of the last reply of a transaction, the first 16 octets of the words drawn for it
abbrev pub nonce_in : Option Stamp → Option (List ℕ)
nonce_in (Some s) = Some (take 16 s.words)
nonce_in None = None

unfoldable pub last_nonce : History → List ℕ → Option (List ℕ)
last_nonce h tid = option_and_then (λ c. nonce_in (stamp_of c)) (find (is_stamped_for tid) (reverse h))

-- ---- leaves

-- how many leaves of a key are used: the authority's own two certificates and each Grant; each signed reply
unfoldable pub leaves_used : History → Key → ℕ
leaves_used [] Issue = 0
leaves_used (c ∷ h) Issue = 2 + count_by is_grant (c ∷ h)
leaves_used h Reply = count_by has_leaf h

-- the leaves that a change signs with, Issue before Reply: its own certificates and its reply
abbrev pub reply_leaves : Option ℕ → List (Key × ℕ)
reply_leaves (Some l) = (Reply, l) ∷ []
reply_leaves None = []

abbrev pub stamp_leaves : Option Stamp → List (Key × ℕ)
stamp_leaves (Some s) = reply_leaves s.leaf
stamp_leaves None = []

abbrev pub signing_leaves : Change → List (Key × ℕ)
signing_leaves (Found s) = (Issue, 0) ∷ (Issue, 1) ∷ []
signing_leaves (Grant s b w serial leaf) = (Issue, leaf) ∷ reply_leaves s.leaf
signing_leaves c = stamp_leaves (stamp_of c)

-- the leaves that a change takes, so that no other one takes them: those that it signs with
abbrev pub taken_leaves : Change → List (Key × ℕ)
taken_leaves c = signing_leaves c

-- the leaf is among them
abbrev pub HasLeaf : List (Key × ℕ) → Key → ℕ → Type 0
HasLeaf [] key leaf = ⊥
HasLeaf (x ∷ xs) key leaf = ((x.0 ≡ key) × (x.1 ≡ leaf)) ⊎ HasLeaf xs key leaf

-- the change signs with the leaf
abbrev pub SignsWith : Change → Key → ℕ → Type 0
SignsWith c key leaf = HasLeaf (signing_leaves c) key leaf

-- the change takes the leaf
abbrev pub TakesLeaf : Change → Key → ℕ → Type 0
TakesLeaf c key leaf = HasLeaf (taken_leaves c) key leaf

-- ---- senders

abbrev pub owner_of_credential : Credential → Owner
owner_of_credential c = record { who = Listed c.kind c.kid; key = c.material; rights = c.rights }

-- to whom a certificate gives the credential of its key, where that is this one: to itself, with the right to enrol alone
abbrev pub granted_owner : List ℕ → List ℕ → ℕ → Option Owner
granted_owner kid spki serial = if is_lms_key spki && same (key_id (key_of spki)) kid then Some (record { who = Cert serial; key = key_of spki; rights = 1 }) else None

-- to whom a change gives the credential with this kind and identifier
abbrev pub owner_in : Kind → List ℕ → Change → Option Owner
owner_in kind kid (Enlist time list) = option_map owner_of_credential (find (is_entry kind kid) list)
owner_in Lms kid (Grant s b w serial leaf) = granted_owner kid w.spki serial
owner_in kind kid _ = None

abbrev pub has_owner : Kind → List ℕ → Change → Bool
has_owner kind kid c = is_some (owner_in kind kid c)

-- to whom a credential belongs: as the first change says that gives it to somebody
unfoldable pub owner_of : History → Kind → List ℕ → Option Owner
owner_of h kind kid = option_and_then (owner_in kind kid) (find (has_owner kind kid) h)

abbrev pub is_confirmed : Option CertificateState → Bool
is_confirmed (Some Confirmed) = true
is_confirmed (Some (Open deadline)) = false
is_confirmed (Some (Revoked reason)) = false
is_confirmed None = false

-- whether a time is behind the last second of a certificate that was granted then
abbrev pub is_past : History → ℕ → ℕ → Bool
is_past h t granted = not (nat_le t (not_after h granted))

abbrev pub is_over : History → ℕ → Option Change → Bool
is_over h t (Some (Grant s b w serial leaf)) = is_past h t s.time
is_over h t _ = true

-- a credential that was dismissed; a certificate that is not confirmed, or over at this time
abbrev pub is_barred : History → ℕ → Who → Bool
is_barred h t (Listed kind kid) = is_dismissed h kind kid
is_barred h t (Cert serial) = not (is_confirmed (certificate_state h serial)) || is_over h t (find (is_grant_of serial) h)

abbrev pub standing_with : History → ℕ → Option Owner → Bool → Standing
standing_with h t (Some o) stranger = if is_barred h t o.who then Barred else Good o.who o.key o.rights
standing_with h t None stranger = if stranger then OtherKind else Unknown

-- the standing of the credential with this kind and identifier at a time
unfoldable pub standing_of : History → Kind → List ℕ → ℕ → Standing
standing_of h kind kid t = standing_with h t (owner_of h kind kid) (is_some (owner_of h (other_kind kind) kid))

abbrev pub standing_of_grant : History → ℕ → Option Change → Standing
standing_of_grant h t (Some (Grant s b w serial leaf)) = standing_of h Lms (key_id (key_of w.spki)) t
standing_of_grant h t _ = Unknown

-- the standing of a sender: of a certificate, that of the key that was granted
abbrev pub standing_of_who : History → Who → ℕ → Standing
standing_of_who h (Listed kind kid) t = standing_of h kind kid t
standing_of_who h (Cert serial) t = standing_of_grant h t (find (is_grant_of serial) h)

-- ---- all answers together

-- what a history answers, each by what is asked
pub record Table : Type 0 where
  pub standing : Kind → List ℕ → ℕ → Standing
  pub sender : Who → ℕ → Standing
  pub certificate : ℕ → Option CertificateState
  pub transaction : List ℕ → DealState
  pub told : List ℕ → Bool
  pub used : Key → ℕ
  pub nonce : List ℕ → Option (List ℕ)
  pub taken : List ℕ → Bool

abbrev pub table_of : History → Table
table_of h = record { standing = standing_of h; sender = standing_of_who h; certificate = certificate_state h; transaction = transaction_state h; told = is_told h; used = leaves_used h; nonce = last_nonce h; taken = is_key_taken h }
