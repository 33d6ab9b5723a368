-- What a message says, as far as a decision asks. Of its octets only these facts are asked, so the table knows no octets. What
-- the octets settle beside a key or a certificate is a function of it.
use Rattle.std.specs.Prelude.{◌≡◌, ℕ, ◌<◌, ◌^◌, Bool, true, false, ◌||◌, ◌==◌, List, length, Option, None, is_some, IfSome, if◌then◌else◌}
use Rattle.deal_changes.specs.declared.change.Kind.{Kind}
use Rattle.deal_changes.specs.declared.change.Body4.{Body4}
use Rattle.deal_changes.specs.declared.change.Wish.{Wish}
use Rattle.deal_changes.specs.Spelling.{IsBlob, IsShort, IsTid, IsWish}
use Rattle.deal_model.specs.declared.asking.Echo.{Echo}
use Rattle.deal_table.specs.History.{Receipted}

-- ---- bodies

-- a certReqId: 0, -1, which stands for a request in the form of PKCS #10, or another number (RFC 9810, 5.3.4 and 5.3.18)
pub data RequestId : Type 0 where
  Zero MinusOne OtherId : RequestId

-- a certificate by its issuer and serial number: the issuer where it is a Name, the number where it has at most 64 bits
pub record Named : Type 0 where
  pub issuer : Option (List ℕ)
  pub serial : Option ℕ

-- A request for a certificate (RFC 9810, 5.3.1 to 5.3.5, RFC 4211, RFC 2986). It has exactly one request, whose certReqId is 0
-- where it has one; a subject that isn't empty; a key; a version that isn't the form's, or a field that the authority alone
-- sets; the issuer, where it stands; an extension that stands twice, is out of form or asks for an authority; an algorithm that
-- isn't served; the certificate that oldCertID names; what is wished for; whether it is raVerified; whether its signature
-- verifies under the key.
pub record Enrolment : Type 0 where
  pub body : Body4
  pub is_one : Bool
  pub has_subject : Bool
  pub has_key : Bool
  pub has_bad_field : Bool
  pub issuer : Option (List ℕ)
  pub has_bad_extension : Bool
  pub has_bad_alg : Bool
  pub old : Option Named
  pub wish : Wish
  pub by_ra : Bool
  pub is_proven : Bool

-- A certConf (RFC 9810, 5.3.18): the number of its statuses, 2 for more, and of the first one the certReqId; the status, 0
-- where it is absent, 0 to 2, or 3 for any other; whether hashAlg is absent or SHA-256; whether certHash is that of the
-- certificate of a Grant, where that was compared.
pub record Confirmation : Type 0 where
  pub count : ℕ
  pub id : RequestId
  pub status : ℕ
  pub has_known_hash : Bool
  pub matches : Receipted → Option Bool

-- a pollReq (RFC 9810, 5.3.22): whether it has exactly one entry, and the certReqId of that
pub record Polling : Type 0 where
  pub is_one : Bool
  pub id : RequestId

-- An rr (RFC 9810, 5.3.9): whether it has exactly one entry, and of that the reason (RFC 5280, 5.3.1), 0 where it is absent and
-- none where it isn't served, and the certificate.
pub record Withdrawal : Type 0 where
  pub is_one : Bool
  pub reason : Option ℕ
  pub certificate : Named

-- nested holds so many messages
pub data Body : Type 0 where
  Enrols : Enrolment → Body
  Confirms : Confirmation → Body
  Polls : Polling → Body
  Withdraws : Withdrawal → Body
  Nests : ℕ → Body
  OtherBody : Body

abbrev pub is_nested : Body → Bool
is_nested (Nests count) = true
is_nested _ = false

-- ---- a message

-- A header (RFC 9810, 5.1.1): the version; the sender, a GeneralName as it stands; the senderKID, empty where it is absent or
-- has more than 64 octets; the transactionID where it has 1 to 64 octets, the senderNonce where it has 16 to 64, and the
-- recipNonce where it has at most 64; the messageTime; and how the message is protected, none where that isn't served.
pub record Header : Type 0 where
  pub pvno : ℕ
  pub sender : List ℕ
  pub kid : List ℕ
  pub tid : Option (List ℕ)
  pub sender_nonce : Option (List ℕ)
  pub recip_nonce : Option (List ℕ)
  pub time : Option ℕ
  pub kind : Option Kind

-- A message (RFC 9810, 5.1): whether its octets are one; their SHA-256; its header; whether protection and protectionAlg
-- stand; whether the protection verifies under a secret or key; its body.
pub record Facts : Type 0 where
  pub is_message : Bool
  pub digest : List ℕ
  pub header : Header
  pub is_protected : Bool
  pub verifies : List ℕ → Bool
  pub body : Body

-- a message, and the one inside it where it nests one
pub record Letter : Type 0 where
  pub message : Facts
  pub inner : Facts

-- the message that is about something
abbrev pub subject_of : Letter → Facts
subject_of l = if is_nested l.message.body then l.inner else l.message

-- a wish can be spelled, and a reason has one octet
abbrev pub FitsBody : Body → Type 0
FitsBody (Enrols e) = IsWish e.wish
FitsBody (Confirms c) = Unit {0}
FitsBody (Polls p) = Unit {0}
FitsBody (Withdraws w) = IfSome w.reason (λ r. r < 2 ^ 8)
FitsBody (Nests count) = Unit {0}
FitsBody OtherBody = Unit {0}

-- What a change keeps of a message fits its places there.
pub record FitsMessage (m : Facts) : Type 0 where
  pub digest : length m.digest ≡ 32
  pub tid : IfSome m.header.tid IsTid
  pub sender : IsBlob m.header.sender
  pub nonce : IfSome m.header.sender_nonce IsShort
  pub body : FitsBody m.body

-- ---- what a reply repeats

abbrev pub is_version : ℕ → Bool
is_version pvno = (pvno == 2) || (pvno == 3)

-- a reply has the version of its message, or 3 where that isn't served
abbrev pub reply_version : ℕ → ℕ
reply_version pvno = if is_version pvno then pvno else 3

-- what a reply repeats of the message that it answers
pub record Echoed : Type 0 where
  pub pvno : ℕ
  pub sender : List ℕ
  pub tid : Option (List ℕ)
  pub nonce : Option (List ℕ)

abbrev pub echo_of : Header → Echoed
echo_of head = record { pvno = reply_version head.pvno; sender = head.sender; tid = head.tid; nonce = head.sender_nonce }

-- what an answer repeats: of the outer message, or of the one that is about something
abbrev pub echo_to : Letter → Bool → Echoed
echo_to l outer = echo_of (if outer then l.message.header else (subject_of l).header)

abbrev pub echoed : Echo → Echoed
echoed e = record { pvno = e.pvno; sender = e.sender.now; tid = e.tid; nonce = e.nonce }

-- ---- whether certHash is compared

-- certHash is compared with each certificate that was granted
abbrev pub Compares : Body → Type 0
Compares (Confirms c) = (r : Receipted) → is_some (c.matches r) ≡ true
Compares (Enrols e) = Unit {0}
Compares (Polls p) = Unit {0}
Compares (Withdraws w) = Unit {0}
Compares (Nests count) = Unit {0}
Compares OtherBody = Unit {0}

-- a message of which nobody has compared certHash

abbrev pub blind_body : Body → Body
blind_body (Confirms c) = Confirms (record c { matches = λ r. None })
blind_body (Enrols e) = Enrols e
blind_body (Polls p) = Polls p
blind_body (Withdraws w) = Withdraws w
blind_body (Nests count) = Nests count
blind_body OtherBody = OtherBody

abbrev pub blind_facts : Facts → Facts
blind_facts m = record m { body = blind_body m.body }

abbrev pub blind : Letter → Letter
blind l = record { message = blind_facts l.message; inner = blind_facts l.inner }
