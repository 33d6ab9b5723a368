-- Certificates as a message carries them: SEQUENCEs of whole elements, which are not looked into further (RFC 9810, 5.1 and 5.3.4).
use Rattle.std.specs.Prelude.{◌≡◌, ℕ, ◌&&◌, ◌==◌, Bool, true, List}
use Rattle.std.specs.List.{list_all}
use Rattle.der_base.specs.Element.{IsElement}
use Rattle.der_base.specs.Reading.{Part}
use Rattle.der_base.specs.Row.{IsRow, items_of}
use Rattle.asn_types.specs.Rows.{IsRowOf, passes}

-- Whole elements of any form, one behind the other, nothing over.
pub record IsElements (content : List ℕ) : Type 0 where
  pub parts : List Part
  pub row : IsRow content parts

-- A certificate: a SEQUENCE of whole elements.
pub record IsCertificate (p : Part) : Type 0 where
  pub is_sequence : p.tag ≡ 0x30
  pub elements : IsElements p.content

-- The octets are one certificate.
pub record IsWholeCertificate (octets : List ℕ) : Type 0 where
  pub content : List ℕ
  pub alone : IsElement octets 0x30 content
  pub elements : IsElements content

-- The content is a row of certificates.
abbrev pub IsCertificates : List ℕ → Type 0
IsCertificates = IsRowOf IsCertificate

-- the same as tests
abbrev pub any_part : Part → Bool
any_part p = true

unfoldable pub are_elements : List ℕ → Bool
are_elements content = list_all (passes any_part) (items_of content)

unfoldable pub is_certificate : Part → Bool
is_certificate p = (p.tag == 0x30) && are_elements p.content

unfoldable pub are_certificates : List ℕ → Bool
are_certificates content = list_all (passes is_certificate) (items_of content)
