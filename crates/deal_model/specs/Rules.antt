-- Which change may come next, and which histories are legal.
use Rattle.std.specs.Prelude.{◌≡◌, ◌≢◌, ℕ, ◌+◌, ◌/◌, ◌%◌, ◌^◌, ◌<◌, ◌≤◌, Bool, true, false, not, ◌&&◌, ◌||◌, ◌==◌, List, [], ◌∷◌, ◌++◌, length, drop, Option, Some, None, IsSome, IfSome, IsTrue, find, sum_by, if◌then◌else◌}
use Rattle.std.specs.List.{list_any, list_all}
use Rattle.std.specs.Str.{is_utf8}
use Rattle.deal_changes.specs.declared.change.Kind.{Kind}
use Rattle.deal_changes.specs.declared.change.Kind.TheVariants.{Mac, Lms}
use Rattle.deal_changes.specs.declared.change.Who.{Who}
use Rattle.deal_changes.specs.declared.change.Who.TheVariants.{Listed, Cert}
use Rattle.deal_changes.specs.declared.change.Body4.{Body4}
use Rattle.deal_changes.specs.declared.change.Body4.TheVariants.{Ir, Cr, P10cr, Kur}
use Rattle.deal_changes.specs.declared.change.Credential.{Credential}
use Rattle.deal_changes.specs.declared.change.Stamp.{Stamp}
use Rattle.deal_changes.specs.declared.change.Wish.{Wish}
use Rattle.deal_changes.specs.declared.change.Settings.{Settings}
use Rattle.deal_changes.specs.declared.change.Change.{Change}
use Rattle.deal_changes.specs.declared.change.Change.TheVariants.{Found, Enlist, Dismiss, Grant, Hold, Release, Deny, Turned, Polled, Settled, Revoke, Lapse}
use Rattle.deal_changes.specs.Spelling.{spelling, IsChange}
use Rattle.deal_changes.specs.Times.{time_of_change}
use Rattle.deal_model.specs.declared.states.Key.TheVariants.{Issue, Reply}
use Rattle.deal_model.specs.declared.states.CertificateState.TheVariants as certificates
use Rattle.deal_model.specs.declared.states.DealState.{DealState}
use Rattle.deal_model.specs.declared.states.DealState.TheVariants.{Unused, Held, Released, Denied, Open}
use Rattle.deal_model.specs.declared.states.Standing.{Standing}
use Rattle.deal_model.specs.declared.states.Standing.TheVariants.{Unknown, OtherKind, Barred, Good}
use Rattle.deal_model.specs.Limits.{most_changes, latest_time}
use Rattle.deal_model.specs.Keys.{levels_of, tree_of, ots_of, leaves_of, key_id, key_of}
use Rattle.deal_model.specs.Views.{History, same, time_of, settings_of, is_found, is_grant_for, is_hold_for, is_grant_of, has_digest, is_empty, same_kind, is_entry, is_listed, is_dismissed, is_key_taken, certificate_state, transaction_state, is_told, leaves_used, standing_of_who}

-- ---- senders and their rights

abbrev pub same_who : Who → Who → Bool
same_who (Listed j a) (Listed k b) = same_kind j k && same a b
same_who (Listed j a) (Cert n) = false
same_who (Cert m) (Listed k b) = false
same_who (Cert m) (Cert n) = m == n

abbrev pub rights_as : Who → Standing → Option ℕ
rights_as who (Good w key rights) = if same_who w who then Some rights else None
rights_as who Unknown = None
rights_as who OtherKind = None
rights_as who Barred = None

-- the rights of a message's sender at its time; none where its standing isn't good
abbrev pub rights_of : History → Stamp → Option ℕ
rights_of h s = rights_as s.who (standing_of_who h s.who s.time)

-- whether these rights have this one: enrol 1, vouch 2, wrap 4, revoke 8, hold 16
abbrev pub has_right : ℕ → Option ℕ → Bool
has_right right (Some rights) = rights / right % 2 == 1
has_right right None = false

-- ---- requests

abbrev pub same_body : Body4 → Body4 → Bool
same_body Ir Ir = true
same_body Cr Cr = true
same_body P10cr P10cr = true
same_body Kur Kur = true
same_body _ _ = false

abbrev pub same_bool : Bool → Bool → Bool
same_bool true b = b
same_bool false b = not b

abbrev pub same_wish : Wish → Wish → Bool
same_wish v w = same v.subject w.subject && same v.spki w.spki && same v.exts w.exts && same_bool v.implicit w.implicit && same_bool v.mods w.mods

-- the Hold of a transaction by its sender, and by all that was asked
abbrev pub is_held_by : Who → Option Change → Bool
is_held_by who (Some (Hold s b w)) = same_who s.who who
is_held_by who _ = false

abbrev pub is_held_as : Who → Body4 → Wish → Option Change → Bool
is_held_as who body wish (Some (Hold s b w)) = same_who s.who who && same_body b body && same_wish w wish
is_held_as who body wish _ = false

-- the Grant by its sender
abbrev pub is_granted_to : Who → Option Change → Bool
is_granted_to who (Some (Grant s b w serial leaf)) = same_who s.who who
is_granted_to who _ = false

-- ---- forms

-- a key of the service's own: one level, a tree of at most 2 ^ 15 leaves, and not all zeros behind the type codes
pub record IsOwnKey (key : List ℕ) : Type 0 where
  pub levels : levels_of key ≡ 1
  pub tree_low : 5 ≤ tree_of key
  pub tree_high : tree_of key ≤ 7
  pub ots_low : 1 ≤ ots_of key
  pub ots_high : ots_of key ≤ 4
  pub filled : list_all (λ n. n == 0) (drop 12 key) ≡ false

-- what a service may be founded with
pub record IsFounding (s : Settings) : Type 0 where
  pub issue_key : IsOwnKey s.issue_key
  pub reply_key : IsOwnKey s.reply_key
  pub wait_low : 1 ≤ s.wait
  pub wait_high : s.wait ≤ 604800
  pub skew_high : s.skew ≤ 86400
  pub rounds_low : 1 ≤ s.rounds
  pub rounds_high : s.rounds ≤ 200000
  pub check_low : 1 ≤ s.check_after
  pub check_high : s.check_after ≤ 86400
  pub days_low : 1 ≤ s.days
  pub days_high : s.days ≤ 36500

-- a reference is a text of 1 to 64 octets, and its secret has 8 to 64
pub record IsReference (kid secret : List ℕ) : Type 0 where
  pub kid_low : 1 ≤ length kid
  pub kid_high : length kid ≤ 64
  pub text : IsTrue (is_utf8 kid)
  pub secret_low : 8 ≤ length secret
  pub secret_high : length secret ≤ 64

-- an HSS/LMS key that may be listed: 60 octets, 1 to 8 levels, known type codes, and its own identifier (RFC 8554, 5.1, 4.1 and 6)
pub record IsListedKey (kid key : List ℕ) : Type 0 where
  pub whole : length key ≡ 60
  pub levels_low : 1 ≤ levels_of key
  pub levels_high : levels_of key ≤ 8
  pub tree_low : 5 ≤ tree_of key
  pub tree_high : tree_of key ≤ 9
  pub ots_low : 1 ≤ ots_of key
  pub ots_high : ots_of key ≤ 4
  pub named : kid ≡ key_id key

abbrev pub IsNamed : Kind → List ℕ → List ℕ → Type 0
IsNamed Mac kid secret = IsReference kid secret
IsNamed Lms kid key = IsListedKey kid key

-- a reference that was ever listed, or a key identifier that stands somewhere
abbrev pub stands : History → Kind → List ℕ → Bool
stands h Mac kid = is_listed h Mac kid
stands h Lms kid = is_key_taken h kid

-- each credential is of its form, in use nowhere, and stands once in the list
abbrev pub AreNew : History → List Credential → Type 0
AreNew h [] = Unit {0}
AreNew h (c ∷ cs) = IsNamed c.kind c.kid c.material × (stands h c.kind c.kid ≡ false) × (list_any (is_entry c.kind c.kid) cs ≡ false) × AreNew h cs

-- ---- rules of messages

-- a reply is signed, by the next leaf, where its sender signs; under a secret it is protected by the secret
abbrev pub reply_leaf : History → Who → Option ℕ
reply_leaf h (Listed Mac id) = None
reply_leaf h (Listed Lms id) = Some (leaves_used h Reply)
reply_leaf h (Cert serial) = Some (leaves_used h Reply)

-- The message is new, its sender is good, and its reply has the next leaf where it is signed, of those that the key has.
pub record StampRule (known : Bool) (rights next : Option ℕ) (leaves : ℕ) (s : Stamp) : Type 0 where
  pub fresh : known ≡ false
  pub good : IsSome rights
  pub leaf : s.leaf ≡ next
  pub left : IfSome s.leaf (λ l. l < leaves)

abbrev pub StampHolds : History → Stamp → Type 0
StampHolds h s = StampRule (list_any (has_digest s.digest) h) (rights_of h s) (reply_leaf h s.who) (leaves_of (settings_of h).reply_key) s

-- A request is granted at once where its transaction is unused, its key new, and its sender may enrol and is not on hold; or
-- after its release, as it was held.
abbrev pub GrantComes : DealState → Bool → Option ℕ → Bool → Type 0
GrantComes Unused taken rights held_as = (taken ≡ false) × IsTrue (has_right 1 rights) × (has_right 16 rights ≡ false)
GrantComes Released taken rights held_as = IsTrue held_as
GrantComes _ taken rights held_as = ⊥

-- A Grant takes the next leaf of the issuing key, of those that it has, and its serial number is one more.
pub record GrantRule (state : DealState) (taken : Bool) (rights : Option ℕ) (held_as : Bool) (used leaves serial leaf : ℕ) : Type 0 where
  pub comes : GrantComes state taken rights held_as
  pub next : leaf ≡ used
  pub left : leaf < leaves
  pub numbered : serial ≡ leaf + 1

abbrev pub GrantHolds : History → Stamp → Body4 → Wish → ℕ → ℕ → Type 0
GrantHolds h s b w serial leaf = GrantRule (transaction_state h s.tid) (is_key_taken h (key_id (key_of w.spki))) (rights_of h s) (is_held_as s.who b w (find (is_hold_for s.tid) h)) (leaves_used h Issue) (leaves_of (settings_of h).issue_key) serial leaf

pub record HoldHolds (h : History) (s : Stamp) (w : Wish) : Type 0 where
  pub unused : transaction_state h s.tid ≡ Unused
  pub new_key : is_key_taken h (key_id (key_of w.spki)) ≡ false
  pub enrol : IsTrue (has_right 1 (rights_of h s))
  pub hold : IsTrue (has_right 16 (rights_of h s))

pub record TurnedHolds (h : History) (s : Stamp) : Type 0 where
  pub denied : transaction_state h s.tid ≡ Denied
  pub untold : is_told h s.tid ≡ false
  pub sender : IsTrue (is_held_by s.who (find (is_hold_for s.tid) h))

pub record PolledHolds (h : History) (s : Stamp) : Type 0 where
  pub held : transaction_state h s.tid ≡ Held
  pub sender : IsTrue (is_held_by s.who (find (is_hold_for s.tid) h))

abbrev pub IsOpenPast : ℕ → DealState → Type 0
IsOpenPast time (Open serial deadline) = time < deadline
IsOpenPast time _ = ⊥

abbrev pub IsOpenUntil : ℕ → DealState → Type 0
IsOpenUntil time (Open serial deadline) = deadline ≤ time
IsOpenUntil time _ = ⊥

pub record SettledHolds (h : History) (s : Stamp) : Type 0 where
  pub in_time : IsOpenPast s.time (transaction_state h s.tid)
  pub sender : IsTrue (is_granted_to s.who (find (is_grant_for s.tid) h))

pub record RevokeHolds (h : History) (s : Stamp) (serial : ℕ) : Type 0 where
  pub unused : transaction_state h s.tid ≡ Unused
  pub confirmed : certificate_state h serial ≡ Some certificates.Confirmed
  pub sender : IsTrue (is_granted_to s.who (find (is_grant_of serial) h) || same_who s.who (Cert serial) || has_right 8 (rights_of h s))

-- ---- the change, by its kind

abbrev pub Holds : History → Change → Type 0
Holds h (Found s) = IsFounding s
Holds h (Enlist time list) = (1 ≤ length list) × (length list ≤ 256) × AreNew h list
Holds h (Dismiss time (Listed kind kid)) = IsTrue (is_listed h kind kid) × (is_dismissed h kind kid ≡ false)
Holds h (Dismiss time (Cert serial)) = ⊥
Holds h (Grant s b w serial leaf) = StampHolds h s × GrantHolds h s b w serial leaf
Holds h (Hold s b w) = StampHolds h s × HoldHolds h s w
Holds h (Release time tid) = transaction_state h tid ≡ Held
Holds h (Deny time tid) = transaction_state h tid ≡ Held
Holds h (Turned s) = StampHolds h s × TurnedHolds h s
Holds h (Polled s) = StampHolds h s × PolledHolds h s
Holds h (Settled s accepted) = StampHolds h s × SettledHolds h s
Holds h (Revoke s serial reason) = StampHolds h s × RevokeHolds h s serial
Holds h (Lapse time tid) = IsOpenUntil time (transaction_state h tid)

-- the octets of a log with these changes: eight at its front, and five before each change
abbrev pub size_of : Change → ℕ
size_of c = 5 + length (spelling c)

abbrev pub log_size : History → ℕ
log_size h = 8 + sum_by size_of h

-- The change may come next: it has a form, its time doesn't fall and no clock says more, it has room, a Found stands first and
-- nowhere else, and the rule of its kind holds.
pub record Allowed (h : History) (c : Change) : Type 0 where
  pub form : IsChange c
  pub later : time_of h ≤ time_of_change c
  pub bounded : time_of_change c ≤ latest_time
  pub room : length h < most_changes
  pub size : log_size h + size_of c ≤ 2 ^ 30
  pub opening : is_found c ≡ is_empty h
  pub holds : Holds h c

-- each change is allowed after those before it
abbrev pub AllowedFrom : History → List Change → Type 0
AllowedFrom before [] = Unit {0}
AllowedFrom before (c ∷ cs) = Allowed before c × AllowedFrom (before ++ c ∷ []) cs

abbrev pub Legal : History → Type 0
Legal h = (h ≢ []) × AllowedFrom [] h
