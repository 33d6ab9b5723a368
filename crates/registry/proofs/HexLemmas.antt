-- Hex digits of too few or too many octets give nothing; a text is UTF-8.
use Rattle.std.proofs.Common.{IsUtf8, IsTrue, ◌≡◌, ℕ, ◌/◌, ◌<◌, List, length, None, Result, Ok, Err, refl, arith}
use Rattle.std.specs.Result.{result_ok}
use Rattle.std.specs.Str.{is_utf8}
use Rattle.std.proofs.lemmas.Str.{is_utf8-from_IsUtf8}
use Rattle.std.proofs.lemmas.Bool.Decides.{nat_tests}
use Rattle.hex.specs.Hex.{decode_of}
use Rattle.hex.specs.declared.error.FromHexError.{FromHexError}
use Rattle.hex.proofs.HexLemmas.{decode_of-ok}
use Rattle.deal_changes.specs.Bind.{◌>>=◌}
use Rattle.registry.specs.Forms.{if_sized}

few_of : (least most : ℕ) (s : List ℕ) (r : Result (List ℕ) FromHexError) → decode_of s ≡ r → length s / 2 < least → (result_ok r >>= if_sized least most) ≡ None
few_of least most s (Ok octets) e h = let sized = (decode_of-ok s octets e).2 in grind (arith, nat_tests, sized)
few_of least most s (Err f) e h = refl

many_of : (least most : ℕ) (s : List ℕ) (r : Result (List ℕ) FromHexError) → decode_of s ≡ r → most < length s / 2 → (result_ok r >>= if_sized least most) ≡ None
many_of least most s (Ok octets) e h = let sized = (decode_of-ok s octets e).2 in grind (arith, nat_tests, sized)
many_of least most s (Err f) e h = refl

pub few : (least most : ℕ) (s : List ℕ) → length s / 2 < least → (result_ok (decode_of s) >>= if_sized least most) ≡ None
few least most s h = few_of least most s (decode_of s) refl h

pub many : (least most : ℕ) (s : List ℕ) → most < length s / 2 → (result_ok (decode_of s) >>= if_sized least most) ≡ None
many least most s h = many_of least most s (decode_of s) refl h

-- a text is UTF-8
pub text_is : (s : List ℕ) → IsUtf8 s → IsTrue (is_utf8 s)
text_is s u = is_utf8-from_IsUtf8 s u
