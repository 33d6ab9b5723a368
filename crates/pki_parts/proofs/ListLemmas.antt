-- Bodies that are lists are read exactly where they are spelled.
use Rattle.std.proofs.Common.{◌≡◌, ℕ, ℤ, ◌^◌, ◌<◌, ◌≤◌, Bool, true, false, cond, eqb, List, [], ◌∷◌, length, Option, Some, None, Result, Ok, Err, IfOk, append-nil, eqb-true, eq-eqb, refl, sym, subst, ◌∙◌, arith}
use Rattle.der_base.specs.Element.{element}
use Rattle.der_base.specs.Reading.{Part, part}
use Rattle.der_base.specs.Values.{is_integer}
use Rattle.asn_fields.specs.Fields.{Gives}
use Rattle.asn_fields.specs.Forms.{IsRead}
use Rattle.asn_fields.specs.Rows.{RowForm, row_of, row_at}
use Rattle.asn_fields.specs.declared.fault.BadForm.{BadForm}
use Rattle.asn_fields.proofs.FieldLemmas.{none_some}
use Rattle.asn_fields.proofs.RowLemmas.{row_takes, row_again}
use Rattle.asn_types.specs.Template.{Passes, same, tested_at}
use Rattle.asn_parts.specs.Parts.{tagged, FitsTagged, sole_with}
use Rattle.asn_parts.proofs.PartLemmas.{tested_is_read, sole_is_read}
use Rattle.pki_parts.specs.Identifier.{id_octets}
use Rattle.pki_parts.specs.Lists.{IsList, IsOne, list_at}

pub tag_test : {Y : Type 0} (b : Bool) (o : Option Y) (y : Y) → cond b o None ≡ Some y → (b ≡ true) × (o ≡ Some y)
tag_test true o y e = (refl, e)
tag_test false o y e = absurd (none_some y e)

pub list_takes : {X : Type 0} {inner : List ℕ → Option X} {spelling : X → List ℕ} {Fits : X → Type 0} → IsRead inner spelling Fits → (p : Part) (row : RowForm X) → list_at inner p ≡ Some row → IsList spelling Fits p row
unfolding list_at
list_takes {inner} law p row e =
    let t = tag_test (eqb p.tag 0x30) (row_at inner 0x30 p.content) row e in
    record { is_sequence = eqb-true p.tag 0x30 t.0; content = row_takes law 0x30 p.content row t.1 }

pub list_again : {X : Type 0} {inner : List ℕ → Option X} {spelling : X → List ℕ} {Fits : X → Type 0} → IsRead inner spelling Fits → (p : Part) (row : RowForm X) → IsList spelling Fits p row → list_at inner p ≡ Some row
unfolding list_at
list_again law p row is = rw (eq-eqb p.tag 0x30 is.is_sequence, row_again law 0x30 (omega arith) p.content row is.content) refl

-- what was read is spelled so
pub list_found : {T X : Type 0} {inner : List ℕ → Option X} {spelling : X → List ℕ} {Fits : X → Type 0} → IsRead inner spelling Fits → (view : T → RowForm X) (r : Result T BadForm) (p : Part) → Gives view r (list_at inner p) → IfOk r (λ x. IsList spelling Fits p (view x))
list_found law view (Ok x) p e = list_takes law p (view x) e
list_found law view (Err f) p e = tt

-- and what is spelled so is read
pub list_only : {T X : Type 0} {inner : List ℕ → Option X} {spelling : X → List ℕ} {Fits : X → Type 0} → IsRead inner spelling Fits → (view : T → RowForm X) (r : Result T BadForm) (p : Part) → Gives view r (list_at inner p) → (row : RowForm X) → IsList spelling Fits p row → Gives view r (Some row)
list_only law view (Ok x) p e row is = sym (list_again law p row is) ∙ e
list_only law view (Err f) p e row is = sym (list_again law p row is) ∙ e

-- the list of one entry
pub one_entry : {X : Type 0} (spelling : X → List ℕ) (Fits : X → Type 0) (x : X) → Fits x → length (spelling x) < 2 ^ 32 → IsList spelling Fits (part 0x30 (element 0x30 (spelling x))) (row_of (x ∷ []))
one_entry spelling Fits x fits counted = record {
  is_sequence = refl;
  content = record { entries = x ∷ []; fit = (fits, counted, tt); spelled = sym (append-nil (element 0x30 (spelling x))); shown = refl };
}

-- octets that are one element, as they were written
pub one_written : {E : Type 0} (Form : Part → Type 0) (r : Result (List ℕ) E) (content : List ℕ) → length content < 2 ^ 32 → Form (part 0x30 content) → IfOk r (λ octets. octets ≡ element 0x30 content) → IfOk r (IsOne Form)
one_written Form (Ok octets) content counted form e = record { tag = 0x30; content = content; alone = record { low_tag = omega arith; counted = counted; spelled = e }; form = form }
one_written Form (Err f) content counted form e = tt

-- what was written is no longer than what is written
pub written_size : {E : Type 0} (r : Result (List ℕ) E) (octets : List ℕ) (n : ℕ) → length octets ≤ n → IfOk r (λ written. written ≡ octets) → IfOk r (λ written. length written ≤ n)
written_size (Ok written) octets n short e = subst (λ (l : List ℕ). length l ≤ n) (sym e) short
written_size (Err f) octets n short e = tt

-- the octet of an identifier is an INTEGER
pub id_fits : (id : ℤ) → FitsTagged same (Passes is_integer) (id_octets id)
id_fits id = (refl, omega arith)

-- an INTEGER that stands alone
pub integer_alone : IsRead (sole_with (tested_at is_integer) 0x02) (tagged 0x02 same) (FitsTagged same (Passes is_integer))
integer_alone = sole_is_read (tested_at is_integer) 0x02 same (Passes is_integer) (omega arith) (tested_is_read is_integer)
