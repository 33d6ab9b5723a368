-- What the readers of bodies tell, as facts. No clause of a public call reads these words.
use Rattle.std.specs.Prelude.{ℕ, ◌+◌, ◌*◌, ◌≤◌, ◌||◌, Bool, false, is_some, find, List, length, fold, Option, Some, None, IfSome, option_map}
use Rattle.std.specs.List.{list_any}
use Rattle.std.specs.Option.{option_copied}
use Rattle.std.specs.Str.{bytes_eq}
use Rattle.asn_types.specs.Extension.{ExtensionForm}
use Rattle.asn_types.specs.Key.{Key, FitsKey, key_content, key_of}
use Rattle.deal_changes.specs.declared.change.Wish.{Wish}
use Rattle.deal_table.specs.History.{Receipted}
use Rattle.deal_table.specs.Message.{RequestId, Zero, MinusOne, OtherId, Named, Enrolment, Confirmation, Polling, Withdrawal, Body, Enrols, Confirms, Polls, Withdraws, Nests, OtherBody}
use Rattle.pki_message.specs.Frame.{message_limit}
use Rattle.intake.specs.Bodies.{wish_of}
use Rattle.intake.specs.Wishes.{stands_twice}
use Rattle.intake.specs.declared.bodies.ReqId.{ReqId}
use Rattle.intake.specs.declared.bodies.ReqId.TheVariants as id
use Rattle.intake.specs.declared.bodies.CertName.{CertName}
use Rattle.intake.specs.declared.bodies.Asked.{Asked}
use Rattle.intake.specs.declared.bodies.Enrolling.{Enrolling}
use Rattle.intake.specs.declared.bodies.Confirming.{Confirming}
use Rattle.intake.specs.declared.bodies.Polling as polling
use Rattle.intake.specs.declared.bodies.Withdrawing.{Withdrawing}
use Rattle.intake.specs.declared.bodies.About.{About}
use Rattle.intake.specs.declared.bodies.About.TheVariants as about

abbrev pub id_told : ReqId → RequestId
id_told id.Zero = Zero
id_told id.MinusOne = MinusOne
id_told id.Other = OtherId

abbrev pub named_told : CertName → Named
named_told c = record { issuer = option_copied c.issuer; serial = c.serial }

abbrev pub asked_wish : Asked → Wish
asked_wish a = wish_of (option_copied a.subject) (option_map key_of a.key) (option_copied a.exts) a.implicit a.has_more

-- a request, where this says whether the private key was shown
abbrev pub enrolling_told : Bool → Enrolling → Enrolment
enrolling_told proven e = record {
  body = e.body;
  is_one = e.is_one;
  has_subject = e.has_subject;
  has_key = is_some e.asked.key;
  has_bad_field = e.has_bad_field;
  issuer = option_copied e.issuer;
  has_bad_extension = e.has_bad_extension;
  has_bad_alg = e.has_bad_alg;
  old = option_map named_told e.old;
  wish = asked_wish e.asked;
  by_ra = e.by_ra;
  is_proven = proven;
}

-- whether a certHash is that of a certificate, where this gives the hash of each
abbrev pub matches_told : (Receipted → List ℕ) → Option (List ℕ) → Receipted → Option Bool
matches_told hashes None r = Some false
matches_told hashes (Some hash) r = Some (bytes_eq hash (hashes r))

abbrev pub confirming_told : (Receipted → List ℕ) → Confirming → Confirmation
confirming_told hashes c = record { count = c.count; id = id_told c.id; status = c.status; has_known_hash = c.has_known_hash; matches = matches_told hashes (option_copied c.hash) }

abbrev pub polling_told : polling.Polling → Polling
polling_told p = record { is_one = p.is_one; id = id_told p.id }

abbrev pub withdrawing_told : Withdrawing → Withdrawal
withdrawing_told w = record { is_one = w.is_one; reason = w.reason; certificate = named_told w.certificate }

abbrev pub about_told : (Receipted → List ℕ) → Bool → About → Body
about_told hashes proven (about.Enrols e) = Enrols (enrolling_told proven e)
about_told hashes proven (about.Confirms c) = Confirms (confirming_told hashes c)
about_told hashes proven (about.Polls p) = Polls (polling_told p)
about_told hashes proven (about.Withdraws w) = Withdraws (withdrawing_told w)
about_told hashes proven (about.Nests count) = Nests count
about_told hashes proven about.Other = OtherBody

-- the key has the form of one and is no longer than a message
pub record FitsAskedKey (k : Key) : Type 0 where
  pub form : FitsKey k
  pub counted : length (key_content k) ≤ message_limit

abbrev pub IsLimited : List ℕ → Type 0
IsLimited octets = length octets ≤ message_limit

-- What is asked for is no longer than a message, so a wish of it can be spelled.
pub record AreLimited (subject : Option (List ℕ)) (key : Option Key) (exts : Option (List ℕ)) : Type 0 where
  pub subject_counted : IfSome subject IsLimited
  pub key_fits : IfSome key FitsAskedKey
  pub exts_counted : IfSome exts IsLimited

abbrev pub FitsAsked : Asked → Type 0
FitsAsked a = AreLimited (option_copied a.subject) (option_map key_of a.key) (option_copied a.exts)

abbrev pub FitsAbout : About → Type 0
FitsAbout (about.Enrols e) = FitsAsked e.asked
FitsAbout (about.Confirms c) = Unit {0}
FitsAbout (about.Polls p) = Unit {0}
FitsAbout (about.Withdraws w) = Unit {0}
FitsAbout (about.Nests count) = Unit {0}
FitsAbout about.Other = Unit {0}

-- ---- what loops have found so far

-- a number, and octets behind it
abbrev pub shifted : ℕ → List ℕ → ℕ
shifted n octets = fold (λ n b. n * 256 + b) n octets

-- what was found before, or what is found later
abbrev pub either : {X : Type 0} → Option X → Option X → Option X
either (Some x) later = Some x
either None later = later

-- one of the entries passes a test, or one did before; none does where one of them can't be read
abbrev pub any_in : {X : Type 0} → (X → Bool) → Bool → Option (List X) → Bool
any_in test found None = false
any_in test found (Some xs) = found || list_any test xs

-- the first one that passes it
abbrev pub first_in : {X : Type 0} → (X → Bool) → Option X → Option (List X) → Option X
first_in test found None = None
first_in test found (Some xs) = either found (find test xs)

abbrev pub same_oid : List ℕ → ExtensionForm → Bool
same_oid oid x = bytes_eq oid x.oid

-- one of the extensions stands twice
abbrev pub twice_in : Bool → Option (List ExtensionForm) → Bool
twice_in found None = false
twice_in found (Some xs) = found || stands_twice xs
