-- PKIFreeText (RFC 9810, 5.1.1): a row of texts, here of any number of them.
use Rattle.std.specs.Prelude.{◌≡◌, ℕ, IsTrue, Bool, is_ok, List}
use Rattle.std.specs.List.{list_all}
use Rattle.std.specs.Str.{is_utf8}
use Rattle.der_base.specs.Reading.{Part}
use Rattle.der_base.specs.Row.{items_of}
use Rattle.der_base.specs.Values.{utf8_at}
use Rattle.asn_types.specs.Rows.{IsRowOf, passes}

-- UTF8String
pub record IsText (p : Part) : Type 0 where
  pub tagged : p.tag ≡ 0x0C
  pub text : IsTrue (is_utf8 p.content)

abbrev pub IsTexts : List ℕ → Type 0
IsTexts = IsRowOf IsText

-- the same as tests
unfoldable pub is_text : Part → Bool
is_text p = is_ok (utf8_at p)

unfoldable pub are_texts : List ℕ → Bool
are_texts content = list_all (passes is_text) (items_of content)
