-- Controls of a certificate request (RFC 4211, 6), of which oldCertID alone is looked into (6.5).
use Rattle.std.specs.Prelude.{◌≡◌, ◌≢◌, ℕ, ◌^◌, ◌<◌, ◌++◌, Bool, if◌then◌else◌, IsTrue, List, [], ◌∷◌, length, Option, Some, None, option_map}
use Rattle.std.specs.Str.{bytes_eq}
use Rattle.der_base.specs.Element.{element}
use Rattle.der_base.specs.Reading.{Part, whole_at}
use Rattle.der_base.specs.Values.{is_integer, is_oid}
use Rattle.asn_fields.specs.Fields.{◌>>=◌, ok_of}
use Rattle.asn_fields.specs.Rows.{entries_spelling, FitsEntries, entries_at}
use Rattle.asn_types.specs.Algorithm.{IsAny, oid_field_at}
use Rattle.asn_types.specs.Template.{Passes, same, tested_at}
use Rattle.asn_parts.specs.Parts.{tagged, FitsTagged, IsWholeGeneral, sole_with, general_front_at, general_part}
use Rattle.req_forms.specs.declared.controls.OldCert.{OldCert}
use Rattle.req_forms.specs.declared.controls.Control.{Control}
use Rattle.req_forms.specs.declared.controls.Control.TheVariants as variant
use Rattle.req_forms.specs.declared.controls.Controls.{Controls}

-- the certificate that a request updates: its issuer, a general name, and its serial number
pub record OldCertForm : Type 0 where
  pub issuer : Part
  pub serial : List ℕ

-- what stands in the SEQUENCE of CertId (RFC 4211, 6.5)
abbrev pub old_content : OldCertForm → List ℕ
old_content o = o.issuer.whole ++ element 0x02 o.serial

pub record FitsOld (o : OldCertForm) : Type 0 where
  pub issuer : IsWholeGeneral o.issuer
  pub serial : FitsTagged same (Passes is_integer) o.serial

-- a control: the oldCertID, or another one by its identifier and its value, a whole element
pub data ControlForm : Type 0 where
  old_cert : OldCertForm → ControlForm
  other : List ℕ → List ℕ → ControlForm

-- id-regCtrl-oldCertID, 1.3.6.1.5.5.7.5.1.5 (RFC 4211, 6.5)
unfoldable pub old_cert_id : List ℕ
old_cert_id = 0x2b ∷ 0x06 ∷ 0x01 ∷ 0x05 ∷ 0x05 ∷ 0x07 ∷ 0x05 ∷ 0x01 ∷ 0x05 ∷ []

-- what stands in the SEQUENCE of a control: an identifier and a value (RFC 4211, 6)
abbrev pub control_content : ControlForm → List ℕ
control_content (old_cert o) = element 0x06 old_cert_id ++ element 0x30 (old_content o)
control_content (other oid value) = element 0x06 oid ++ value

-- Another control has another identifier, and a value of any form.
pub record FitsOther (oid value : List ℕ) : Type 0 where
  pub identifier : IsTrue (is_oid oid)
  pub counted : length oid < 2 ^ 32
  pub differs : oid ≢ old_cert_id
  pub form : IsAny value

abbrev pub FitsControl : ControlForm → Type 0
FitsControl (old_cert o) = FitsTagged old_content FitsOld o
FitsControl (other oid value) = FitsOther oid value

-- the first oldCertID
abbrev pub first_old : List ControlForm → Option OldCertForm
first_old [] = None
first_old (old_cert o ∷ controls) = Some o
first_old (other oid value ∷ controls) = first_old controls

-- controls: the octets that they stand in, and the first oldCertID
pub record ControlsForm : Type 0 where
  pub octets : List ℕ
  pub old : Option OldCertForm

abbrev pub controls_content : ControlsForm → List ℕ
controls_content c = c.octets

-- The octets are a row of controls, and the first oldCertID is this.
pub record IsControls (c : ControlsForm) : Type 0 where
  pub controls : List ControlForm
  pub fit : FitsEntries control_content FitsControl controls
  pub spelled : c.octets ≡ entries_spelling 0x30 control_content controls
  pub first : c.old ≡ first_old controls

-- what was read shows
abbrev pub old_of : OldCert → OldCertForm
old_of o = record { issuer = general_part o.issuer; serial = o.serial.now }

abbrev pub control_of : Control → ControlForm
control_of (variant.OldCert o) = old_cert (old_of o)
control_of (variant.Other oid value) = other oid.now value.now

abbrev pub controls_of : Controls → ControlsForm
controls_of c = record { octets = c.octets.now; old = option_map old_of c.old }

-- what is read
unfoldable pub old_at : List ℕ → Option OldCertForm
old_at bytes = do
  issuer ← general_front_at bytes
  serial ← sole_with (tested_at is_integer) 0x02 issuer.1
  Some (record { issuer = issuer.0; serial = serial })

abbrev pub value_at : List ℕ → Bool → List ℕ → Option ControlForm
value_at oid is_old rest = if is_old then (sole_with old_at 0x30 rest >>= λ o. Some (old_cert o)) else (ok_of (whole_at rest) >>= λ p. Some (other oid p.whole))

unfoldable pub control_at : List ℕ → Option ControlForm
control_at bytes = do
  kind ← oid_field_at bytes
  value_at kind.0 (bytes_eq kind.0 old_cert_id) kind.1

unfoldable pub controls_at : List ℕ → Option ControlsForm
controls_at octets = entries_at control_at 0x30 octets >>= λ controls. Some (record { octets = octets; old = first_old controls })

-- the controls that are read, where those that are left are these and the first oldCertID before them is this
abbrev pub either_old : Option OldCertForm → Option OldCertForm → Option OldCertForm
either_old None later = later
either_old (Some o) later = Some o

abbrev pub with_old : List ℕ → Option OldCertForm → Option (List ControlForm) → Option ControlsForm
with_old octets old None = None
with_old octets old (Some controls) = Some (record { octets = octets; old = either_old old (first_old controls) })
