-- The test of texts decides whether an element is one.
use Rattle.std.proofs.Common.{◌≡◌, ℕ, Bool, true, false, cond, eqb, IsTrue, ◌↔◌, is_ok, List, Result, Ok, Err, eqb-true, eq-eqb, refl}
use Rattle.std.specs.Str.{is_utf8}
use Rattle.der_base.specs.Reading.{Part}
use Rattle.der_base.specs.Values.{utf8_at}
use Rattle.der_base.specs.declared.fault.DerFault.{DerFault}
use Rattle.der_base.specs.declared.fault.DerFault.TheVariants.{BadTag, BadLength}
use Rattle.asn_types.specs.Rows.{IsRowOf}
use Rattle.asn_types.proofs.RowLemmas.{row_of}
use Rattle.asn_parts.specs.Text.{IsText, is_text, are_texts}

text_tests : (a b : Bool) (content : List ℕ) → IsTrue (is_ok {E = DerFault} (cond a (cond b (Ok content) (Err BadLength)) (Err BadTag))) → (a ≡ true) × (b ≡ true)
text_tests true true content h = (refl, refl)
text_tests true false content h = cc
text_tests false b content h = cc

tests_text : (a b : Bool) (content : List ℕ) → a ≡ true → b ≡ true → IsTrue (is_ok {E = DerFault} (cond a (cond b (Ok content) (Err BadLength)) (Err BadTag)))
tests_text true true content h k = refl
tests_text true false content h k = cc
tests_text false b content h k = cc

pub text_test : (p : Part) → IsTrue (is_text p) ↔ IsText p
unfolding is_text utf8_at
text_test p = (
  λ h. let t = text_tests (eqb p.tag 0x0C) (is_utf8 p.content) p.content h in record { tagged = eqb-true _ _ t.0; text = t.1 },
  λ r. tests_text (eqb p.tag 0x0C) (is_utf8 p.content) p.content (eq-eqb _ _ r.tagged) r.text,
)

pub texts_test : (content : List ℕ) → IsTrue (are_texts content) ↔ IsRowOf IsText content
unfolding are_texts
texts_test content = row_of is_text IsText text_test content
