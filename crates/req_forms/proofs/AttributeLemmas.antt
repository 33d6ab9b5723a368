-- Attributes are read exactly where they are spelled.
use Rattle.std.proofs.Common.{◌≡◌, ◌≢◌, ℕ, ◌%◌, ◌^◌, ◌<◌, ◌++◌, Bool, true, false, cond, IsTrue, List, [], ◌∷◌, length, Option, Some, None, append-nil, refl, sym, ap, subst, ◌∙◌, arith}
use Rattle.std.specs.Str.{bytes_eq}
use Rattle.std.proofs.lemmas.Slice.Eq.{bytes_eq-Decides}
use Rattle.der_base.specs.Element.{element}
use Rattle.der_base.specs.Values.{is_oid}
use Rattle.asn_fields.specs.Fields.{◌>>=◌}
use Rattle.asn_fields.specs.Forms.{IsRead}
use Rattle.asn_fields.specs.Rows.{entries_spelling, FitsEntries, entries_at}
use Rattle.asn_fields.proofs.FieldLemmas.{bound, some_same, none_some}
use Rattle.asn_fields.proofs.RowLemmas.{entries_are_read}
use Rattle.asn_types.specs.Algorithm.{oid_field_at}
use Rattle.asn_types.specs.Extension.{is_extensions}
use Rattle.asn_types.specs.Template.{Passes, same, tested_at}
use Rattle.asn_types.proofs.ValueLemmas.{IsOidFront, oid_field_takes, oid_field_again}
use Rattle.asn_parts.specs.Parts.{tagged, FitsTagged, sole_with}
use Rattle.asn_parts.proofs.PartLemmas.{tested_is_read, sole_is_read}
use Rattle.req_forms.specs.Requests.{are_elements}
use Rattle.req_forms.specs.Attributes.{AttributeForm, extension_request, other, extension_request_id, attribute_content, FitsOther, FitsAttribute, values_at, attribute_at, AttributesForm, attributes_content, IsAttributes, requests_in, at_most_one, with_exts, attributes_at}
use Rattle.req_forms.proofs.ControlLemmas.{not_true, differs_test}

exts_law : IsRead (sole_with (sole_with (tested_at is_extensions) 0x30) 0x31) (tagged 0x31 (tagged 0x30 same)) (FitsTagged (tagged 0x30 same) (FitsTagged same (Passes is_extensions)))
exts_law = sole_is_read (sole_with (tested_at is_extensions) 0x30) 0x31 (tagged 0x30 same) (FitsTagged same (Passes is_extensions)) (omega arith) (sole_is_read (tested_at is_extensions) 0x30 same (Passes is_extensions) (omega arith) (tested_is_read is_extensions))

values_law : IsRead (sole_with (tested_at are_elements) 0x31) (tagged 0x31 same) (FitsTagged same (Passes are_elements))
values_law = sole_is_read (tested_at are_elements) 0x31 same (Passes are_elements) (omega arith) (tested_is_read are_elements)

-- an attribute by its identifier
values_take : (bytes oid rest : List ℕ) (a : AttributeForm) (b : Bool) → IsOidFront bytes oid rest → bytes_eq oid extension_request_id ≡ b → values_at oid b rest ≡ Some a → FitsAttribute a × (bytes ≡ attribute_content a)
values_take bytes oid rest a true front test e =
    bound (FitsAttribute a × (bytes ≡ attribute_content a)) (sole_with (sole_with (tested_at is_extensions) 0x30) 0x31 rest) (λ (x : List ℕ). Some (extension_request x)) a e (λ x got last.
    let w = exts_law.takes rest x got in
    let named : oid ≡ extension_request_id = (bytes_eq-Decides oid extension_request_id).0 test in
    subst (λ (y : AttributeForm). FitsAttribute y × (bytes ≡ attribute_content y)) (some_same (extension_request x) a last)
    (w.0, front.parts ∙ ap (λ (l : List ℕ). element 0x06 l ++ rest) named ∙ ap (λ (l : List ℕ). element 0x06 extension_request_id ++ l) w.1))
values_take bytes oid rest a false front test e =
    bound (FitsAttribute a × (bytes ≡ attribute_content a)) (sole_with (tested_at are_elements) 0x31 rest) (λ (x : List ℕ). Some (other oid x)) a e (λ x got last.
    let w = values_law.takes rest x got in
    let fits : FitsOther oid x = record { identifier = front.identifier; counted = front.counted; differs = λ same. not_true (bytes_eq oid extension_request_id) test ((bytes_eq-Decides oid extension_request_id).1 same); elements = w.0 } in
    subst (λ (y : AttributeForm). FitsAttribute y × (bytes ≡ attribute_content y)) (some_same (other oid x) a last)
    (fits, front.parts ∙ ap (λ (l : List ℕ). element 0x06 oid ++ l) w.1))

attribute_takes : (bytes : List ℕ) (a : AttributeForm) → attribute_at bytes ≡ Some a → FitsAttribute a × (bytes ≡ attribute_content a)
unfolding attribute_at
attribute_takes bytes a e =
    bound (FitsAttribute a × (bytes ≡ attribute_content a)) (oid_field_at bytes) _ a e (λ kind read e1.
    values_take bytes kind.0 kind.1 a (bytes_eq kind.0 extension_request_id) (oid_field_takes bytes kind.0 kind.1 read) refl e1)

request_oid : IsTrue (is_oid extension_request_id)
unfolding extension_request_id is_oid
request_oid = refl

request_counted : length extension_request_id < 2 ^ 32
unfolding extension_request_id
request_counted = omega arith

attribute_again : (a : AttributeForm) → FitsAttribute a → attribute_at (attribute_content a) ≡ Some a
unfolding attribute_at
attribute_again (extension_request exts) fits =
    let test : bytes_eq extension_request_id extension_request_id ≡ true = (bytes_eq-Decides extension_request_id extension_request_id).1 refl in
    rw (oid_field_again extension_request_id (element 0x31 (element 0x30 exts)) request_oid request_counted, test, exts_law.again exts fits) refl
attribute_again (other oid values) fits =
    let test : bytes_eq oid extension_request_id ≡ false = differs_test oid extension_request_id _ refl fits.differs in
    rw (oid_field_again oid (element 0x31 values) fits.identifier fits.counted, test, values_law.again values fits.elements) refl

attribute_is_read : IsRead attribute_at attribute_content FitsAttribute
attribute_is_read = record { takes = attribute_takes; again = attribute_again }

attribute_rows : IsRead (entries_at attribute_at 0x30) (entries_spelling 0x30 attribute_content) (FitsEntries attribute_content FitsAttribute)
attribute_rows = entries_are_read attribute_is_read 0x30 (omega arith)

exts_made : (octets : List ℕ) (a : AttributesForm) (attributes : List AttributeForm) (o : Option (Option (List ℕ))) → FitsEntries attribute_content FitsAttribute attributes → octets ≡ entries_spelling 0x30 attribute_content attributes → at_most_one (requests_in attributes) ≡ o → with_exts octets o ≡ Some a → IsAttributes a × (octets ≡ attributes_content a)
exts_made octets a attributes None fit spelled one e = absurd (none_some a e)
exts_made octets a attributes (Some exts) fit spelled one e =
    subst (λ (x : AttributesForm). IsAttributes x × (octets ≡ attributes_content x)) (some_same (record { octets = octets; exts = exts }) a e)
    (record { attributes = attributes; fit = fit; spelled = spelled; one = one }, refl)

attributes_take : (octets : List ℕ) (a : AttributesForm) → attributes_at octets ≡ Some a → IsAttributes a × (octets ≡ attributes_content a)
unfolding attributes_at
attributes_take octets a e =
    bound (IsAttributes a × (octets ≡ attributes_content a)) (entries_at attribute_at 0x30 octets) (λ (l : List AttributeForm). with_exts octets (at_most_one (requests_in l))) a e (λ attributes read last.
    let w = attribute_rows.takes octets attributes read in
    exts_made octets a attributes (at_most_one (requests_in attributes)) w.0 w.1 refl last)

attributes_again : (a : AttributesForm) → IsAttributes a → attributes_at (attributes_content a) ≡ Some a
unfolding attributes_at
attributes_again a is = rw (ap (entries_at attribute_at 0x30) is.spelled ∙ attribute_rows.again is.attributes is.fit, is.one) refl

-- The law of attributes.
pub attributes_are_read : IsRead attributes_at attributes_content IsAttributes
attributes_are_read = record { takes = attributes_take; again = attributes_again }
