-- The one spelling of each change. Numbers are big-endian.
use Rattle.std.specs.Prelude.{◌≡◌, ℕ, ◌+◌, ◌<◌, ◌≤◌, ◌^◌, Bool, true, false, List, [], ◌∷◌, ◌++◌, length, Option, Some, None, IfSome, IsTrue, if◌then◌else◌}
use Rattle.std.specs.List.{flat_map, AllByRecursion}
use Rattle.std.specs.Int.{w16, w32, w64, to_be_bytes}
use Rattle.deal_changes.specs.declared.change.Kind.{Kind}
use Rattle.deal_changes.specs.declared.change.Kind.TheVariants.{Mac, Lms}
use Rattle.deal_changes.specs.declared.change.Who.{Who}
use Rattle.deal_changes.specs.declared.change.Who.TheVariants.{Listed, Cert}
use Rattle.deal_changes.specs.declared.change.Body4.{Body4}
use Rattle.deal_changes.specs.declared.change.Body4.TheVariants.{Ir, Cr, P10cr, Kur}
use Rattle.deal_changes.specs.declared.change.Credential.{Credential}
use Rattle.deal_changes.specs.declared.change.Stamp.{Stamp}
use Rattle.deal_changes.specs.declared.change.Wish.{Wish}
use Rattle.deal_changes.specs.declared.change.Settings.{Settings}
use Rattle.deal_changes.specs.declared.change.Change.{Change}
use Rattle.deal_changes.specs.declared.change.Change.TheVariants.{Found, Enlist, Dismiss, Grant, Hold, Release, Deny, Turned, Polled, Settled, Revoke, Lapse}
use Rattle.deal_changes.specs.Spki.{is_spki, is_ca_name}

-- ---- parts

unfoldable pub u16 : ℕ → List ℕ
u16 n = to_be_bytes w16 n

unfoldable pub u32 : ℕ → List ℕ
u32 n = to_be_bytes w32 n

unfoldable pub u64 : ℕ → List ℕ
u64 n = to_be_bytes w64 n

-- at most 64 octets, behind their number
abbrev pub short : List ℕ → List ℕ
short octets = length octets ∷ octets

-- any number of octets, behind it
abbrev pub blob : List ℕ → List ℕ
blob octets = u32 (length octets) ++ octets

-- a number that may be absent, behind a flag
abbrev pub optional : Option ℕ → List ℕ
optional None = 0 ∷ []
optional (Some n) = 1 ∷ u32 n

abbrev pub kind : Kind → ℕ
kind Mac = 1
kind Lms = 2

-- a listed credential by its kind and identifier, or a certificate by its serial number
abbrev pub who : Who → List ℕ
who (Listed k id) = kind k ∷ short id
who (Cert serial) = 3 ∷ u64 serial

-- the number of the body's context tag (RFC 9810, 5.1.2)
abbrev pub body : Body4 → ℕ
body Ir = 0
body Cr = 2
body P10cr = 4
body Kur = 7

abbrev pub outcome : Bool → ℕ
outcome true = 1
outcome false = 2

-- implicit confirmation 1, modifications 2
abbrev pub flags : Bool → Bool → ℕ
flags implicit mods = (if implicit then 1 else 0) + (if mods then 2 else 0)

abbrev pub stamp : Stamp → List ℕ
stamp s = short s.tid ++ (s.digest ++ (who s.who ++ (blob s.sender ++ (s.pvno ∷ (short s.sender_nonce ++ (s.words ++ (u64 s.time ++ optional s.leaf)))))))

abbrev pub wish : Wish → List ℕ
wish w = blob w.subject ++ (blob w.spki ++ (blob w.exts ++ flags w.implicit w.mods ∷ []))

abbrev pub settings : Settings → List ℕ
settings s = u64 s.time ++ (blob s.name ++ (s.issue_key ++ (s.reply_key ++ (u32 s.wait ++ (u32 s.skew ++ (u32 s.rounds ++ (u32 s.check_after ++ u32 s.days)))))))

abbrev pub credential : Credential → List ℕ
credential c = kind c.kind ∷ short c.kid ++ (short c.material ++ c.rights ∷ [])

abbrev pub credentials : List Credential → List ℕ
credentials list = u16 (length list) ++ flat_map credential list

-- ---- the change, by its kind

abbrev pub spelling : Change → List ℕ
spelling (Found s) = 1 ∷ settings s
spelling (Enlist time list) = 2 ∷ u64 time ++ credentials list
spelling (Dismiss time w) = 3 ∷ u64 time ++ who w
spelling (Grant s b w serial leaf) = 4 ∷ stamp s ++ (body b ∷ wish w ++ (u64 serial ++ u32 leaf))
spelling (Hold s b w) = 5 ∷ stamp s ++ (body b ∷ wish w)
spelling (Release time tid) = 6 ∷ u64 time ++ short tid
spelling (Deny time tid) = 7 ∷ u64 time ++ short tid
spelling (Turned s) = 8 ∷ stamp s
spelling (Polled s) = 9 ∷ stamp s
spelling (Settled s accepted) = 10 ∷ stamp s ++ outcome accepted ∷ []
spelling (Revoke s serial reason) = 11 ∷ stamp s ++ (u64 serial ++ reason ∷ [])
spelling (Lapse time tid) = 12 ∷ u64 time ++ short tid

-- ---- which values have a spelling

abbrev pub IsBlob : List ℕ → Type 0
IsBlob octets = length octets < 2 ^ 32

abbrev pub IsShort : List ℕ → Type 0
IsShort octets = length octets ≤ 64

-- a transactionID: 1 to 64 octets
abbrev pub IsTid : List ℕ → Type 0
IsTid tid = (1 ≤ length tid) × (length tid ≤ 64)

-- a reference, a key identifier, which has 20 octets, or a serial number
abbrev pub IsWho : Who → Type 0
IsWho (Listed Mac id) = IsShort id
IsWho (Listed Lms id) = length id ≡ 20
IsWho (Cert serial) = serial < 2 ^ 64

abbrev pub IsListed : Who → Type 0
IsListed (Listed k id) = IsWho (Listed k id)
IsListed (Cert serial) = ⊥

pub record IsStamp (s : Stamp) : Type 0 where
  pub tid : IsTid s.tid
  pub digest : length s.digest ≡ 32
  pub who : IsWho s.who
  pub sender : IsBlob s.sender
  pub pvno : s.pvno < 2 ^ 8
  pub sender_nonce : IsShort s.sender_nonce
  pub words : length s.words ≡ 32
  pub time : s.time < 2 ^ 64
  pub leaf : IfSome s.leaf (λ l. l < 2 ^ 32)

-- the subject and the extensions aren't looked into
pub record IsWish (w : Wish) : Type 0 where
  pub subject : IsBlob w.subject
  pub spki : IsBlob w.spki
  pub is_spki : IsTrue (is_spki w.spki)
  pub exts : IsBlob w.exts

pub record AreSettings (s : Settings) : Type 0 where
  pub time : s.time < 2 ^ 64
  pub name : IsBlob s.name
  pub is_ca_name : IsTrue (is_ca_name s.name)
  pub issue_key : length s.issue_key ≡ 60
  pub reply_key : length s.reply_key ≡ 60
  pub wait : s.wait < 2 ^ 32
  pub skew : s.skew < 2 ^ 32
  pub rounds : s.rounds < 2 ^ 32
  pub check_after : s.check_after < 2 ^ 32
  pub days : s.days < 2 ^ 32

-- of the rights there are five
pub record IsCredential (c : Credential) : Type 0 where
  pub kid : IsShort c.kid
  pub material : IsShort c.material
  pub rights : c.rights < 32

abbrev pub AreCredentials : List Credential → Type 0
AreCredentials list = (length list < 2 ^ 16) × AllByRecursion IsCredential list

-- the change has a spelling
abbrev pub IsChange : Change → Type 0
IsChange (Found s) = AreSettings s
IsChange (Enlist time list) = (time < 2 ^ 64) × AreCredentials list
IsChange (Dismiss time w) = (time < 2 ^ 64) × IsListed w
IsChange (Grant s b w serial leaf) = IsStamp s × IsWish w × (serial < 2 ^ 64) × (leaf < 2 ^ 32)
IsChange (Hold s b w) = IsStamp s × IsWish w
IsChange (Release time tid) = (time < 2 ^ 64) × IsTid tid
IsChange (Deny time tid) = (time < 2 ^ 64) × IsTid tid
IsChange (Turned s) = IsStamp s
IsChange (Polled s) = IsStamp s
IsChange (Settled s accepted) = IsStamp s
IsChange (Revoke s serial reason) = IsStamp s × (serial < 2 ^ 64) × (reason < 2 ^ 8)
IsChange (Lapse time tid) = (time < 2 ^ 64) × IsTid tid

-- ---- what a writer needs to know: its lengths fit their numbers

abbrev pub IsWriteable : Change → Type 0
IsWriteable (Found s) = IsBlob s.name
IsWriteable (Enlist time list) = length list < 2 ^ 16
IsWriteable (Grant s b w serial leaf) = IsBlob s.sender × IsBlob w.subject × IsBlob w.spki × IsBlob w.exts
IsWriteable (Hold s b w) = IsBlob s.sender × IsBlob w.subject × IsBlob w.spki × IsBlob w.exts
IsWriteable (Turned s) = IsBlob s.sender
IsWriteable (Polled s) = IsBlob s.sender
IsWriteable (Settled s accepted) = IsBlob s.sender
IsWriteable (Revoke s serial reason) = IsBlob s.sender
IsWriteable _ = Unit {0}
