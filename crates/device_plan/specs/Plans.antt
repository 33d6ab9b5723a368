-- What a device asks for, and by what it shows who it is.
use Rattle.std.specs.Prelude.{◌≡◌, ℕ, ◌≤◌, Bool, true, false, IsSome, List, [], length, Option, Some, None, if◌then◌else◌}
use Rattle.deal_changes.specs.declared.change.Body4.{Body4}
use Rattle.deal_changes.specs.declared.change.Body4.TheVariants.{Ir, Cr, P10cr, Kur}
use Rattle.asn_parts.specs.Parts.{FitsTagged, sole_with}
use Rattle.asn_types.specs.Key.{Key, key_at, key_identifier}
use Rattle.asn_types.specs.Template.{IsWholeName}
use Rattle.x509_cert.specs.Cert.{CertForm, FitsCert, cert_content, cert_octets, cert_at}
use Rattle.x509_cert.specs.Validity.{IsValidity}
use Rattle.intake.specs.Values.{number_in}
use Rattle.device_plan.specs.declared.plan.DeviceGuard.{DeviceGuard}
use Rattle.device_plan.specs.declared.plan.DeviceGuard.TheVariants.{Mac, Signed}
use Rattle.device_plan.specs.declared.plan.Target.{Target}
use Rattle.device_plan.specs.declared.plan.Target.TheVariants.{Book, Made}
use Rattle.device_plan.specs.declared.plan.DevicePlan.{DevicePlan}

-- The octets are a certificate (RFC 5280, 4.1) with a serial number of at most 64 bits.
pub record IsCertificate (octets : List ℕ) : Type 0 where
  pub form : CertForm
  pub fits : FitsTagged cert_content FitsCert form
  pub spelled : octets ≡ cert_octets form
  pub from : ℕ
  pub to : ℕ
  pub dated : IsValidity form.tbs.validity from to
  pub serial : IsSome (number_in form.tbs.serial)

-- the most octets of each list of a plan
abbrev pub list_limit : ℕ
list_limit = 131_072

-- the request is a key update (RFC 9810, 5.3.5)
abbrev pub is_kur : Body4 → Bool
is_kur Kur = true
is_kur Ir = false
is_kur Cr = false
is_kur P10cr = false

-- A device shows who it is by a secret, where it asks for no key update; or by the key of a certificate, which signs.
abbrev pub IsGuard : Body4 → DeviceGuard → Type 0
IsGuard body (Mac reference secret) = is_kur body ≡ false
IsGuard body (Signed cert) = ∥ IsCertificate cert ∥₁ × (length cert ≤ list_limit)

abbrev pub IsTarget : Target → Type 0
IsTarget Book = Unit {0}
IsTarget (Made key proof) = length proof ≤ list_limit

-- What every call that takes a plan asks: both names are Names; a certificate is one whose serial number has at most 64 bits; a key
-- update is asked for by a certificate's holder; each list has at most 131,072 octets; a MAC has at least one round.
pub record IsPlan (p : DevicePlan) : Type 0 where
  pub ca : ∥ IsWholeName p.ca ∥₁
  pub ca_short : length p.ca ≤ list_limit
  pub subject : ∥ IsWholeName p.subject ∥₁
  pub subject_short : length p.subject ≤ list_limit
  pub guard : IsGuard p.body p.guard
  pub target : IsTarget p.target
  pub rounds : 1 ≤ p.rounds

-- ---- what is read of the certificate

abbrev pub cert_in : DeviceGuard → Option CertForm
cert_in (Mac reference secret) = None
cert_in (Signed cert) = cert_at cert

abbrev pub bits_of : Option Key → List ℕ
bits_of None = []
bits_of (Some k) = k.key

-- the octets of the key that a certificate is about
abbrev pub key_in : CertForm → List ℕ
key_in c = bits_of (sole_with key_at 0x30 c.tbs.spki)

abbrev pub subject_by : List ℕ → Option CertForm → List ℕ
subject_by subject None = subject
subject_by subject (Some c) = c.tbs.subject

abbrev pub kid_by : DeviceGuard → Option CertForm → List ℕ
kid_by (Mac reference secret) read = reference
kid_by (Signed cert) None = []
kid_by (Signed cert) (Some c) = key_identifier (key_in c)

abbrev pub serial_by : Option CertForm → Option ℕ
serial_by None = None
serial_by (Some c) = number_in c.tbs.serial

-- the sender's Name: the subject, of the certificate where one signs
abbrev pub sender_in : DevicePlan → List ℕ
sender_in p = subject_by p.subject (cert_in p.guard)

-- senderKID: the reference, or the identifier of the certificate's key
abbrev pub kid_in : DevicePlan → List ℕ
kid_in p = kid_by p.guard (cert_in p.guard)

-- a key update replaces the certificate by which the device shows who it is: its serial number
abbrev pub old_in : DevicePlan → Option ℕ
old_in p = if is_kur p.body then serial_by (cert_in p.guard) else None
