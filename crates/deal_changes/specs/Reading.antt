-- Reading from left to right on whole lists: a part and the octets after it, or nothing where the format has no such
-- part. The readers of the code give what these give; the laws in proofs/ join them to the spelling.
use Rattle.std.specs.Prelude.{◌≡◌, ℕ, zero, suc, Bool, true, false, List, [], ◌∷◌, length, take, drop, Option, Some, None, Result, Ok, Err, nat_lt, ◌==◌, if◌then◌else◌}
use Rattle.std.specs.Int.{Width, w16, w32, w64, byte_len, from_be_bytes}
use Rattle.deal_changes.specs.declared.change.Kind.{Kind}
use Rattle.deal_changes.specs.declared.change.Kind.TheVariants.{Mac, Lms}
use Rattle.deal_changes.specs.declared.change.Who.{Who}
use Rattle.deal_changes.specs.declared.change.Who.TheVariants.{Listed, Cert}
use Rattle.deal_changes.specs.declared.change.Body4.{Body4}
use Rattle.deal_changes.specs.declared.change.Body4.TheVariants.{Ir, Cr, P10cr, Kur}
use Rattle.deal_changes.specs.declared.change.Credential.{Credential}
use Rattle.deal_changes.specs.declared.change.Stamp.{Stamp}
use Rattle.deal_changes.specs.declared.change.Wish.{Wish}
use Rattle.deal_changes.specs.declared.change.Settings.{Settings}
use Rattle.deal_changes.specs.declared.change.Change.{Change}
use Rattle.deal_changes.specs.declared.change.Change.TheVariants.{Found, Enlist, Dismiss, Grant, Hold, Release, Deny, Turned, Polled, Settled, Revoke, Lapse}
use Rattle.deal_changes.specs.declared.fault.ChangeFault.{ChangeFault}
use Rattle.deal_changes.specs.declared.fault.ChangeFault.TheVariants.{BadChange, NoMemory}
use Rattle.deal_changes.specs.Spki.{is_spki, is_ca_name}
pub use Rattle.deal_changes.specs.Bind.{Read, ◌>>=◌}

-- What a reader of the code returned, seen by view, is what reading gives, unless memory ran out.
abbrev pub Fails : {Y : Type 0} → ChangeFault → Option Y → Type 0
Fails BadChange read = read ≡ None
Fails NoMemory read = Unit {0}

abbrev pub Gives : {X Y : Type 0} → (X → Y) → Result X ChangeFault → Option Y → Type 0
Gives view (Ok x) read = read ≡ Some (view x)
Gives view (Err e) read = Fails e read

-- ---- parts

abbrev pub octet_at : List ℕ → Read ℕ
octet_at [] = None
octet_at (b ∷ rest) = Some (b, rest)

abbrev pub octets_at : ℕ → List ℕ → Read (List ℕ)
octets_at n bytes = if nat_lt (length bytes) n then None else Some (take n bytes, drop n bytes)

abbrev pub number_at : Width → List ℕ → Read ℕ
number_at w bytes = if nat_lt (length bytes) (byte_len w) then None else Some (from_be_bytes w (take (byte_len w) bytes), drop (byte_len w) bytes)

-- the part that an octet stands for
abbrev pub coded_at : {X : Type 0} → (ℕ → Option X) → List ℕ → Read X
coded_at of bytes = do
  code ← octet_at bytes
  x ← of code.0
  Some (x, code.1)

unfoldable pub short_at : List ℕ → Read (List ℕ)
short_at bytes = do
  n ← octet_at bytes
  if nat_lt 64 n.0 then None else octets_at n.0 n.1

unfoldable pub tid_at : List ℕ → Read (List ℕ)
tid_at bytes = do
  tid ← short_at bytes
  if length tid.0 == 0 then None else Some tid

unfoldable pub key_id_at : List ℕ → Read (List ℕ)
key_id_at bytes = do
  id ← short_at bytes
  if length id.0 == 20 then Some id else None

unfoldable pub blob_at : List ℕ → Read (List ℕ)
blob_at bytes = do
  n ← number_at w32 bytes
  octets_at n.0 n.1

unfoldable pub spki_at : List ℕ → Read (List ℕ)
spki_at bytes = do
  spki ← blob_at bytes
  if is_spki spki.0 then Some spki else None

unfoldable pub name_at : List ℕ → Read (List ℕ)
name_at bytes = do
  name ← blob_at bytes
  if is_ca_name name.0 then Some name else None

unfoldable pub leaf_at : List ℕ → Read (Option ℕ)
leaf_at [] = None
leaf_at (zero ∷ rest) = Some (None, rest)
leaf_at (suc zero ∷ rest) = do
  n ← number_at w32 rest
  Some (Some n.0, n.1)
leaf_at (suc (suc b) ∷ rest) = None

abbrev pub kind_of : ℕ → Option Kind
kind_of code = if code == 1 then Some Mac else (if code == 2 then Some Lms else None)

abbrev pub body_of : ℕ → Option Body4
body_of code = if code == 0 then Some Ir else (if code == 2 then Some Cr else (if code == 4 then Some P10cr else (if code == 7 then Some Kur else None)))

abbrev pub outcome_of : ℕ → Option Bool
outcome_of code = if code == 1 then Some true else (if code == 2 then Some false else None)

-- whether confirmation is implicit, and whether there are modifications
abbrev pub flags_of : ℕ → Option (Bool × Bool)
flags_of code = if code == 0 then Some (false, false) else (if code == 1 then Some (true, false) else (if code == 2 then Some (false, true) else (if code == 3 then Some (true, true) else None)))

abbrev pub rights_of : ℕ → Option ℕ
rights_of code = if nat_lt code 32 then Some code else None

unfoldable pub listed_at : ℕ → List ℕ → Read Who
listed_at code bytes = if code == 1
    then (short_at bytes >>= λ id. Some (Listed Mac id.0, id.1))
    else (if code == 2 then (key_id_at bytes >>= λ id. Some (Listed Lms id.0, id.1)) else None)

unfoldable pub sender_at : ℕ → List ℕ → Read Who
sender_at code bytes = if code == 3
    then (number_at w64 bytes >>= λ serial. Some (Cert serial.0, serial.1))
    else listed_at code bytes

unfoldable pub who_at : List ℕ → Read Who
who_at bytes = do
  code ← octet_at bytes
  sender_at code.0 code.1

unfoldable pub dismissed_at : List ℕ → Read Who
dismissed_at bytes = do
  code ← octet_at bytes
  listed_at code.0 code.1

unfoldable pub stamp_at : List ℕ → Read Stamp
stamp_at bytes = do
  tid ← tid_at bytes
  digest ← octets_at 32 tid.1
  who ← who_at digest.1
  sender ← blob_at who.1
  pvno ← octet_at sender.1
  nonce ← short_at pvno.1
  words ← octets_at 32 nonce.1
  time ← number_at w64 words.1
  leaf ← leaf_at time.1
  Some (record { tid = tid.0; digest = digest.0; who = who.0; sender = sender.0; pvno = pvno.0; sender_nonce = nonce.0; words = words.0; time = time.0; leaf = leaf.0 }, leaf.1)

unfoldable pub wish_at : List ℕ → Read Wish
wish_at bytes = do
  subject ← blob_at bytes
  spki ← spki_at subject.1
  exts ← blob_at spki.1
  flags ← coded_at flags_of exts.1
  Some (record { subject = subject.0; spki = spki.0; exts = exts.0; implicit = flags.0.0; mods = flags.0.1 }, flags.1)

unfoldable pub settings_at : List ℕ → Read Settings
settings_at bytes = do
  time ← number_at w64 bytes
  name ← name_at time.1
  issue ← octets_at 60 name.1
  reply ← octets_at 60 issue.1
  wait ← number_at w32 reply.1
  skew ← number_at w32 wait.1
  rounds ← number_at w32 skew.1
  check ← number_at w32 rounds.1
  days ← number_at w32 check.1
  Some (record { time = time.0; name = name.0; issue_key = issue.0; reply_key = reply.0; wait = wait.0; skew = skew.0; rounds = rounds.0; check_after = check.0; days = days.0 }, days.1)

unfoldable pub credential_at : List ℕ → Read Credential
credential_at bytes = do
  kind ← coded_at kind_of bytes
  kid ← short_at kind.1
  material ← short_at kid.1
  rights ← coded_at rights_of material.1
  Some (record { kind = kind.0; kid = kid.0; material = material.0; rights = rights.0 }, rights.1)

unfoldable pub credentials_at : ℕ → List ℕ → Read (List Credential)
credentials_at zero bytes = Some ([], bytes)
credentials_at (suc n) bytes = do
  first ← credential_at bytes
  others ← credentials_at n first.1
  Some (first.0 ∷ others.0, others.1)

unfoldable pub list_at : List ℕ → Read (List Credential)
list_at bytes = do
  n ← number_at w16 bytes
  credentials_at n.0 n.1

-- ---- the change, by its kind

unfoldable pub found_at : List ℕ → Read Change
found_at bytes = do
  s ← settings_at bytes
  Some (Found s.0, s.1)

unfoldable pub enlist_at : List ℕ → Read Change
enlist_at bytes = do
  time ← number_at w64 bytes
  list ← list_at time.1
  Some (Enlist time.0 list.0, list.1)

unfoldable pub dismiss_at : List ℕ → Read Change
dismiss_at bytes = do
  time ← number_at w64 bytes
  who ← dismissed_at time.1
  Some (Dismiss time.0 who.0, who.1)

-- a serial number, and the leaf of the issuing key
unfoldable pub numbers_at : List ℕ → Read (ℕ × ℕ)
numbers_at bytes = do
  serial ← number_at w64 bytes
  leaf ← number_at w32 serial.1
  Some ((serial.0, leaf.0), leaf.1)

unfoldable pub grant_at : List ℕ → Read Change
grant_at bytes = do
  s ← stamp_at bytes
  b ← coded_at body_of s.1
  w ← wish_at b.1
  n ← numbers_at w.1
  Some (Grant s.0 b.0 w.0 n.0.0 n.0.1, n.1)

unfoldable pub hold_at : List ℕ → Read Change
hold_at bytes = do
  s ← stamp_at bytes
  b ← coded_at body_of s.1
  w ← wish_at b.1
  Some (Hold s.0 b.0 w.0, w.1)

unfoldable pub release_at : List ℕ → Read Change
release_at bytes = do
  time ← number_at w64 bytes
  tid ← tid_at time.1
  Some (Release time.0 tid.0, tid.1)

unfoldable pub deny_at : List ℕ → Read Change
deny_at bytes = do
  time ← number_at w64 bytes
  tid ← tid_at time.1
  Some (Deny time.0 tid.0, tid.1)

unfoldable pub turned_at : List ℕ → Read Change
turned_at bytes = do
  s ← stamp_at bytes
  Some (Turned s.0, s.1)

unfoldable pub polled_at : List ℕ → Read Change
polled_at bytes = do
  s ← stamp_at bytes
  Some (Polled s.0, s.1)

unfoldable pub settled_at : List ℕ → Read Change
settled_at bytes = do
  s ← stamp_at bytes
  outcome ← coded_at outcome_of s.1
  Some (Settled s.0 outcome.0, outcome.1)

unfoldable pub revoke_at : List ℕ → Read Change
revoke_at bytes = do
  s ← stamp_at bytes
  serial ← number_at w64 s.1
  reason ← octet_at serial.1
  Some (Revoke s.0 serial.0 reason.0, reason.1)

unfoldable pub lapse_at : List ℕ → Read Change
lapse_at bytes = do
  time ← number_at w64 bytes
  tid ← tid_at time.1
  Some (Lapse time.0 tid.0, tid.1)

-- the kinds that no message makes, and those that one does
unfoldable pub order_at : ℕ → List ℕ → Read Change
order_at n bytes = if n == 1 then found_at bytes
    else (if n == 2 then enlist_at bytes
    else (if n == 3 then dismiss_at bytes
    else (if n == 6 then release_at bytes
    else (if n == 7 then deny_at bytes
    else (if n == 12 then lapse_at bytes else None)))))

unfoldable pub kind_at : ℕ → List ℕ → Read Change
kind_at n bytes = if n == 4 then grant_at bytes
    else (if n == 5 then hold_at bytes
    else (if n == 8 then turned_at bytes
    else (if n == 9 then polled_at bytes
    else (if n == 10 then settled_at bytes
    else (if n == 11 then revoke_at bytes else order_at n bytes)))))

-- all of the octets
unfoldable pub change_of : List ℕ → Option Change
change_of bytes = do
  n ← octet_at bytes
  c ← kind_at n.0 n.1
  if length c.1 == 0 then Some c.0 else None
