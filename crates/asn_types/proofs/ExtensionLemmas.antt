-- Extensions are read exactly where they are spelled.
use Rattle.std.proofs.Common.{◌≡◌, ℕ, ◌^◌, ◌<◌, ◌++◌, Bool, true, false, not, cond, eqb, is_some, IsTrue, ◌↔◌, List, [], ◌∷◌, length, Option, Some, None, append-nil, eqb-true, eq-eqb, refl, ap, subst, ◌∙◌, arith}
use Rattle.der_base.specs.Element.{element, IsElement}
use Rattle.der_base.specs.Reading.{Part}
use Rattle.der_base.specs.Values.{is_oid, boolean_at}
use Rattle.asn_fields.specs.Fields.{ok_of, sole_at, optional_at}
use Rattle.asn_fields.specs.Forms.{IsRead}
use Rattle.asn_fields.proofs.FieldLemmas.{IsTagged, bound, passed, some_same, sole_takes, sole_reads}
use Rattle.asn_types.specs.Algorithm.{oid_field_at}
use Rattle.asn_types.specs.Extension.{ExtensionForm, FitsExtension, IsExtension, IsExtensions, critical_octets, critical_of, critical_at, extension_content, extension_at, is_extension, is_extensions}
use Rattle.asn_types.proofs.RowLemmas.{both, and_both, row_of}
use Rattle.asn_types.proofs.NameLemmas.{not_empty, false_true}
use Rattle.asn_types.proofs.OptionalLemmas.{IsOptional, optional_takes, optional_there}
use Rattle.asn_types.proofs.ValueLemmas.{IsOidFront, oid_field_takes, oid_field_again, true_takes, true_again}

critical_same : (bytes rest more : List ℕ) (b c : Bool) → bytes ≡ critical_octets b ++ more → ◌≡◌ {A = Bool × List ℕ} (b, more) (c, rest) → bytes ≡ critical_octets c ++ rest
critical_same bytes rest more b c e same =
    e ∙ ap (λ (x : Bool × List ℕ). critical_octets x.0 ++ x.1) same

critical_by : (bytes : List ℕ) (o : Option Part) (more : List ℕ) (c : Bool) (rest : List ℕ) → IsOptional 1 bytes o more → critical_of (o, more) ≡ Some (c, rest) → bytes ≡ critical_octets c ++ rest
critical_by bytes None more c rest t e = critical_same bytes rest more false c t (some_same (false, more) (c, rest) e)
critical_by bytes (Some p) more c rest t e =
    bound (bytes ≡ critical_octets c ++ rest) (ok_of (boolean_at p)) (λ (b : Bool). cond b (Some (true, more)) None) (c, rest) e (λ b got e1.
    passed (bytes ≡ critical_octets c ++ rest) b (true, more) (c, rest) e1 (λ h same.
    critical_same bytes rest more true c (t.parts ∙ ap (λ (l : List ℕ). l ++ more) (t.element_is.spelled ∙ ap (element 1) (true_takes p b got h).1)) same))

critical_takes : (bytes : List ℕ) (c : Bool) (rest : List ℕ) → critical_at bytes ≡ Some (c, rest) → bytes ≡ critical_octets c ++ rest
unfolding critical_at
critical_takes bytes c rest e =
    bound (bytes ≡ critical_octets c ++ rest) (optional_at 1 bytes) critical_of (c, rest) e (λ r read e1.
    critical_by bytes r.0 r.1 c rest (optional_takes 1 bytes r.0 r.1 read) e1)

none_there : (value : List ℕ) → optional_at 1 (element 4 value) ≡ Some (None, element 4 value)
unfolding optional_at element
none_there value = refl

critical_again : (c : Bool) (value : List ℕ) → critical_at (critical_octets c ++ element 4 value) ≡ Some (c, element 4 value)
unfolding critical_at
critical_again true value = rw (optional_there 1 (255 ∷ []) (element 4 value) (omega arith) (omega arith), true_again) refl
critical_again false value = rw (none_there value) refl

extension_made : (content : List ℕ) (x : ExtensionForm) (oid rest : List ℕ) (c : Bool) (more : List ℕ) (p : Part) → IsOidFront content oid rest → rest ≡ critical_octets c ++ more → IsTagged 4 more p [] → oid ≡ x.oid → c ≡ x.critical → p.content ≡ x.value → FitsExtension x × (content ≡ extension_content x)
extension_made content x oid rest c more p front flag t same_oid same_flag same_value =
    let all : more ≡ element 4 x.value = t.parts ∙ append-nil p.whole ∙ t.element_is.spelled ∙ ap (element 4) same_value in (
      record {
        identifier = subst (λ (l : List ℕ). IsTrue (is_oid l)) same_oid front.identifier;
        counted = subst (λ (l : List ℕ). length l < 2 ^ 32) same_oid front.counted;
        value_counted = subst (λ (l : List ℕ). length l < 2 ^ 32) same_value t.element_is.counted;
      },
      front.parts ∙ ap (λ (l : List ℕ). l ++ rest) (ap (element 6) same_oid)
          ∙ ap (λ (l : List ℕ). element 6 x.oid ++ l) (flag ∙ ap (λ (l : List ℕ). critical_octets c ++ l) all ∙ ap (λ (b : Bool). critical_octets b ++ element 4 x.value) same_flag),
    )

extension_takes : (content : List ℕ) (x : ExtensionForm) → extension_at content ≡ Some x → FitsExtension x × (content ≡ extension_content x)
unfolding extension_at
extension_takes content x e =
    bound (FitsExtension x × (content ≡ extension_content x)) (oid_field_at content) _ x e (λ kind read e1.
    bound (FitsExtension x × (content ≡ extension_content x)) (critical_at kind.1) _ x e1 (λ flag got e2.
    bound (FitsExtension x × (content ≡ extension_content x)) (sole_at 4 flag.1) _ x e2 (λ p alone e3.
    let same = some_same (record { oid = kind.0; critical = flag.0; value = p.content }) x e3 in
    extension_made content x kind.0 kind.1 flag.0 flag.1 p (oid_field_takes content kind.0 kind.1 read) (critical_takes kind.1 flag.0 flag.1 got) (sole_takes 4 flag.1 p alone) (ap (λ (y : ExtensionForm). y.oid) same) (ap (λ (y : ExtensionForm). y.critical) same) (ap (λ (y : ExtensionForm). y.value) same))))

extension_again : (x : ExtensionForm) → FitsExtension x → extension_at (extension_content x) ≡ Some x
unfolding extension_at
extension_again x fits =
    let is : IsElement (element 4 x.value) 4 x.value = record { low_tag = omega arith; counted = fits.value_counted; spelled = refl } in
    rw (oid_field_again x.oid (critical_octets x.critical ++ element 4 x.value) fits.identifier fits.counted, critical_again x.critical x.value, sole_reads 4 (element 4 x.value) x.value is) refl

pub extension_is_read : IsRead extension_at extension_content FitsExtension
extension_is_read = record { takes = extension_takes; again = extension_again }

some_there : {X : Type 0} (o : Option X) → IsTrue (is_some o) → (x : X) × (o ≡ Some x)
some_there None h = absurd (false_true h)
some_there (Some x) h = (x, refl)

extension_test : (p : Part) → IsTrue (is_extension p) ↔ IsExtension p
unfolding is_extension
extension_test p = (
  λ h.
      let parts = both (eqb p.tag 0x30) _ h in
      let there = some_there (extension_at p.content) parts.1 in
      let law = extension_takes p.content there.0 there.1 in
      record { form = there.0; is_sequence = eqb-true _ _ parts.0; fits = law.0; spelled = law.1 },
  λ r. and_both (eqb p.tag 0x30) _ (eq-eqb _ _ r.is_sequence) (ap is_some (ap extension_at r.spelled ∙ extension_again r.form r.fits)),
)

-- the test of extensions, and what it tells
pub extensions_test : (content : List ℕ) → IsTrue (is_extensions content) ↔ IsExtensions content
unfolding is_extensions
extensions_test content = (
  λ h.
      let parts = both (not (eqb (length content) 0)) _ h in
      record { some = (not_empty content).0 parts.0; row = (row_of is_extension IsExtension extension_test content).0 parts.1 },
  λ r. and_both (not (eqb (length content) 0)) _ ((not_empty content).1 r.some) ((row_of is_extension IsExtension extension_test content).1 r.row),
)
