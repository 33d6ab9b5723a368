-- Controls are read exactly where they are spelled.
use Rattle.std.proofs.Common.{◌≡◌, ◌≢◌, ℕ, ◌%◌, ◌^◌, ◌<◌, ◌++◌, Bool, true, false, cond, IsTrue, List, [], ◌∷◌, length, Option, Some, None, append-nil, refl, sym, ap, subst, ◌∙◌, arith}
use Rattle.std.specs.Str.{bytes_eq}
use Rattle.std.proofs.lemmas.Slice.Eq.{bytes_eq-Decides}
use Rattle.der_base.specs.Element.{element}
use Rattle.der_base.specs.Reading.{Part, whole_at}
use Rattle.der_base.specs.Values.{is_integer, is_oid}
use Rattle.asn_fields.specs.Fields.{◌>>=◌, ok_of}
use Rattle.asn_fields.specs.Forms.{IsRead}
use Rattle.asn_fields.specs.Rows.{entries_spelling, FitsEntries, entries_at}
use Rattle.asn_fields.proofs.FieldLemmas.{bound, some_same}
use Rattle.asn_fields.proofs.RowLemmas.{entries_are_read}
use Rattle.asn_types.specs.Algorithm.{IsAny, oid_field_at}
use Rattle.asn_types.specs.Template.{Passes, same, tested_at}
use Rattle.asn_types.proofs.ValueLemmas.{IsOidFront, oid_field_takes, oid_field_again, whole_takes, whole_again}
use Rattle.asn_parts.specs.Parts.{tagged, FitsTagged, sole_with, general_front_at}
use Rattle.asn_parts.proofs.PartLemmas.{tested_is_read, sole_is_read, general_front}
use Rattle.req_forms.specs.Controls.{OldCertForm, FitsOld, old_content, old_at, ControlForm, old_cert, other, old_cert_id, control_content, FitsOther, FitsControl, value_at, control_at, ControlsForm, controls_content, IsControls, first_old, controls_at}

serial_law : IsRead (sole_with (tested_at is_integer) 0x02) (tagged 0x02 same) (FitsTagged same (Passes is_integer))
serial_law = sole_is_read (tested_at is_integer) 0x02 same (Passes is_integer) (omega arith) (tested_is_read is_integer)

old_takes : (bytes : List ℕ) (o : OldCertForm) → old_at bytes ≡ Some o → FitsOld o × (bytes ≡ old_content o)
unfolding old_at
old_takes bytes o e =
    bound (FitsOld o × (bytes ≡ old_content o)) (general_front_at bytes) _ o e (λ i read e1.
    bound (FitsOld o × (bytes ≡ old_content o)) (sole_with (tested_at is_integer) 0x02 i.1) _ o e1 (λ s got e2.
    let f = general_front.takes bytes i.0 i.1 read in
    let g = serial_law.takes i.1 s got in
    subst (λ (x : OldCertForm). FitsOld x × (bytes ≡ old_content x)) (some_same (record { issuer = i.0; serial = s }) o e2)
    (record { issuer = f.0; serial = g.0 }, f.1 ∙ ap (λ (l : List ℕ). i.0.whole ++ l) g.1)))

old_again : (o : OldCertForm) → FitsOld o → old_at (old_content o) ≡ Some o
unfolding old_at
old_again o fits = rw (general_front.again o.issuer (element 0x02 o.serial) fits.issuer, serial_law.again o.serial fits.serial) refl

old_is_read : IsRead old_at old_content FitsOld
old_is_read = record { takes = old_takes; again = old_again }

old_alone : IsRead (sole_with old_at 0x30) (tagged 0x30 old_content) (FitsTagged old_content FitsOld)
old_alone = sole_is_read old_at 0x30 old_content FitsOld (omega arith) old_is_read

pub not_true : (b : Bool) → b ≡ false → b ≡ true → ⊥
not_true true e h = cc
not_true false e h = cc

-- a control by its identifier
value_takes : (bytes oid rest : List ℕ) (c : ControlForm) (b : Bool) → IsOidFront bytes oid rest → bytes_eq oid old_cert_id ≡ b → value_at oid b rest ≡ Some c → FitsControl c × (bytes ≡ control_content c)
value_takes bytes oid rest c true front test e =
    bound (FitsControl c × (bytes ≡ control_content c)) (sole_with old_at 0x30 rest) (λ (o : OldCertForm). Some (old_cert o)) c e (λ o got last.
    let w = old_alone.takes rest o got in
    let named : oid ≡ old_cert_id = (bytes_eq-Decides oid old_cert_id).0 test in
    subst (λ (x : ControlForm). FitsControl x × (bytes ≡ control_content x)) (some_same (old_cert o) c last)
    (w.0, front.parts ∙ ap (λ (l : List ℕ). element 0x06 l ++ rest) named ∙ ap (λ (l : List ℕ). element 0x06 old_cert_id ++ l) w.1))
value_takes bytes oid rest c false front test e =
    bound (FitsControl c × (bytes ≡ control_content c)) (ok_of (whole_at rest)) (λ (p : Part). Some (other oid p.whole)) c e (λ p got last.
    let w = whole_takes rest p got in
    let any : IsAny p.whole = subst IsAny (sym w.1) (record { tag = p.tag; content = p.content; alone = w.0 }) in
    let fits : FitsOther oid p.whole = record { identifier = front.identifier; counted = front.counted; differs = λ same. not_true (bytes_eq oid old_cert_id) test ((bytes_eq-Decides oid old_cert_id).1 same); form = any } in
    subst (λ (x : ControlForm). FitsControl x × (bytes ≡ control_content x)) (some_same (other oid p.whole) c last)
    (fits, front.parts ∙ ap (λ (l : List ℕ). element 0x06 oid ++ l) (sym w.1)))

control_takes : (bytes : List ℕ) (c : ControlForm) → control_at bytes ≡ Some c → FitsControl c × (bytes ≡ control_content c)
unfolding control_at
control_takes bytes c e =
    bound (FitsControl c × (bytes ≡ control_content c)) (oid_field_at bytes) _ c e (λ kind read e1.
    value_takes bytes kind.0 kind.1 c (bytes_eq kind.0 old_cert_id) (oid_field_takes bytes kind.0 kind.1 read) refl e1)

pub differs_test : (oid other_oid : List ℕ) (b : Bool) → bytes_eq oid other_oid ≡ b → oid ≢ other_oid → b ≡ false
differs_test oid other_oid true e h = absurd (h ((bytes_eq-Decides oid other_oid).0 e))
differs_test oid other_oid false e h = refl

old_oid : IsTrue (is_oid old_cert_id)
unfolding old_cert_id is_oid
old_oid = refl

old_counted : length old_cert_id < 2 ^ 32
unfolding old_cert_id
old_counted = omega arith

control_again : (c : ControlForm) → FitsControl c → control_at (control_content c) ≡ Some c
unfolding control_at
control_again (old_cert o) fits =
    let test : bytes_eq old_cert_id old_cert_id ≡ true = (bytes_eq-Decides old_cert_id old_cert_id).1 refl in
    rw (oid_field_again old_cert_id (element 0x30 (old_content o)) old_oid old_counted, test, old_alone.again o fits) refl
control_again (other oid value) fits =
    let test : bytes_eq oid old_cert_id ≡ false = differs_test oid old_cert_id _ refl fits.differs in
    rw (oid_field_again oid value fits.identifier fits.counted, test, whole_again value fits.form.tag fits.form.content fits.form.alone) (ap (λ (l : List ℕ). Some (other oid l)) (sym fits.form.alone.spelled))

control_is_read : IsRead control_at control_content FitsControl
control_is_read = record { takes = control_takes; again = control_again }

control_rows : IsRead (entries_at control_at 0x30) (entries_spelling 0x30 control_content) (FitsEntries control_content FitsControl)
control_rows = entries_are_read control_is_read 0x30 (omega arith)

controls_take : (octets : List ℕ) (c : ControlsForm) → controls_at octets ≡ Some c → IsControls c × (octets ≡ controls_content c)
unfolding controls_at
controls_take octets c e =
    bound (IsControls c × (octets ≡ controls_content c)) (entries_at control_at 0x30 octets) _ c e (λ controls read last.
    let w = control_rows.takes octets controls read in
    subst (λ (x : ControlsForm). IsControls x × (octets ≡ controls_content x)) (some_same (record { octets = octets; old = first_old controls }) c last)
    (record { controls = controls; fit = w.0; spelled = w.1; first = refl }, refl))

controls_by : (c : ControlsForm) (old : Option OldCertForm) → c.old ≡ old → ◌≡◌ {A = Option ControlsForm} (Some (record { octets = c.octets; old = old })) (Some c)
controls_by c old e = ap (λ (o : Option OldCertForm). let x : ControlsForm = record { octets = c.octets; old = o } in Some x) (sym e)

controls_again : (c : ControlsForm) → IsControls c → controls_at (controls_content c) ≡ Some c
unfolding controls_at
controls_again c is =
    rw (ap (entries_at control_at 0x30) is.spelled ∙ control_rows.again is.controls is.fit) (controls_by c (first_old is.controls) is.first)

-- The law of controls.
pub controls_are_read : IsRead controls_at controls_content IsControls
controls_are_read = record { takes = controls_take; again = controls_again }
