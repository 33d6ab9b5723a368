-- The tests of certificates tell what they are.
use Rattle.std.proofs.Common.{ℕ, eqb, IsTrue, ◌↔◌, List, eqb-true, eq-eqb, refl}
use Rattle.der_base.specs.Reading.{Part}
use Rattle.asn_fields.specs.Forms.{IsRead}
use Rattle.asn_types.specs.Template.{same, tested_at}
use Rattle.asn_types.proofs.RowLemmas.{both, and_both, row_of}
use Rattle.asn_parts.proofs.PartLemmas.{tested_is_read}
use Rattle.pki_parts.specs.Certificates.{IsElements, IsCertificate, IsCertificates, any_part, are_elements, is_certificate, are_certificates}

abbrev IsPart : Part → Type 0
IsPart p = Unit {0}

pub elements_test : (content : List ℕ) → IsTrue (are_elements content) ↔ IsElements content
unfolding are_elements
elements_test content =
    let test = row_of any_part IsPart (λ p. (λ h. tt, λ h. refl)) content in (
      λ h. let r = test.0 h in record { parts = r.parts; row = r.row },
      λ is. test.1 (record { parts = is.parts; row = is.row; each = λ k d lt. tt }),
    )

pub certificate_test : (p : Part) → IsTrue (is_certificate p) ↔ IsCertificate p
unfolding is_certificate
certificate_test p = (
  λ h.
      let t = both (eqb p.tag 0x30) (are_elements p.content) h in
      record { is_sequence = eqb-true p.tag 0x30 t.0; elements = (elements_test p.content).0 t.1 },
  λ is. and_both (eqb p.tag 0x30) (are_elements p.content) (eq-eqb p.tag 0x30 is.is_sequence) ((elements_test p.content).1 is.elements),
)

pub certificates_test : (content : List ℕ) → IsTrue (are_certificates content) ↔ IsCertificates content
unfolding are_certificates
certificates_test content = row_of is_certificate IsCertificate certificate_test content

pub certificates_are_read : IsRead (tested_at are_certificates) same IsCertificates
certificates_are_read = record {
  takes = λ bytes x e. let t = (tested_is_read are_certificates).takes bytes x e in ((certificates_test x).0 t.0, t.1);
  again = λ x h. (tested_is_read are_certificates).again x ((certificates_test x).1 h);
}
