-- Texts in UTF-8 (X.690, 8.23), and rows of them.
use Rattle.std.specs.Prelude.{◌≡◌, ℕ, IsTrue, Bool, is_ok, List}
use Rattle.std.specs.List.{list_all}
use Rattle.std.specs.Str.{is_utf8}
use Rattle.der_base.specs.Reading.{Part}
use Rattle.der_base.specs.Row.{items_of}
use Rattle.der_base.specs.Values.{utf8_at}
use Rattle.asn_types.specs.Rows.{passes}

-- UTF8String
pub record IsText (p : Part) : Type 0 where
  pub tagged : p.tag ≡ 0x0C
  pub text : IsTrue (is_utf8 p.content)

-- the same as tests
unfoldable pub is_text : Part → Bool
is_text p = is_ok (utf8_at p)

unfoldable pub are_texts : List ℕ → Bool
are_texts content = list_all (passes is_text) (items_of content)
