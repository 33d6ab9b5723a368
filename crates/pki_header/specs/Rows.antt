-- The rows of texts and of general information in a header (RFC 9810, 5.1.1).
use Rattle.std.specs.Prelude.{◌≡◌, ◌≢◌, ℕ, ◌&&◌, ◌==◌, not, is_some, is_ok, IsTrue, Bool, List, [], length}
use Rattle.std.specs.List.{list_all}
use Rattle.std.specs.Str.{is_utf8}
use Rattle.der_base.specs.Reading.{Part}
use Rattle.der_base.specs.Row.{items_of}
use Rattle.der_base.specs.Values.{utf8_at}
use Rattle.asn_types.specs.Algorithm.{Algorithm, FitsAlgorithm, algorithm_content, algorithm_at}
use Rattle.asn_types.specs.Rows.{IsRowOf, passes}

-- UTF8String
pub record IsText (p : Part) : Type 0 where
  pub tagged : p.tag ≡ 0x0C
  pub text : IsTrue (is_utf8 p.content)

-- PKIFreeText: a row of texts, not empty
pub record IsFreeText (content : List ℕ) : Type 0 where
  pub some : content ≢ []
  pub row : IsRowOf IsText content

-- InfoTypeAndValue: a SEQUENCE of an object identifier and one element of any form, which may be left out, as an
-- AlgorithmIdentifier is
pub record IsInfo (p : Part) : Type 0 where
  pub form : Algorithm
  pub is_sequence : p.tag ≡ 0x30
  pub fits : FitsAlgorithm form
  pub spelled : p.content ≡ algorithm_content form

-- generalInfo: a row of them, not empty
pub record IsGeneralInfo (content : List ℕ) : Type 0 where
  pub some : content ≢ []
  pub row : IsRowOf IsInfo content

-- the same as tests
unfoldable pub is_text : Part → Bool
is_text p = is_ok (utf8_at p)

unfoldable pub is_free_text : List ℕ → Bool
is_free_text content = not (length content == 0) && list_all (passes is_text) (items_of content)

unfoldable pub is_info : Part → Bool
is_info p = (p.tag == 0x30) && is_some (algorithm_at p.content)

unfoldable pub is_general_info : List ℕ → Bool
is_general_info content = not (length content == 0) && list_all (passes is_info) (items_of content)
