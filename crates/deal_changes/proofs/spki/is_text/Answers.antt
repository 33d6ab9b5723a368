-- The test of std is true exactly for UTF-8.
use Rattle.std.proofs.Common.{◌≡◌, ℕ, Bool, true, false, List, refl, sym}
use Rattle.std.specs.Str.{IsUtf8, is_utf8}
use Rattle.std.proofs.lemmas.Str.{IsUtf8-from_is_utf8, is_utf8-from_IsUtf8}
use Rattle.deal_changes.proofs.spki.is_text.Goals as goal

not_text : (b : Bool) (bs : List ℕ) → is_utf8 bs ≡ b → ¬ IsUtf8 bs → false ≡ b
not_text true bs e h = absurd (h (IsUtf8-from_is_utf8 bs e))
not_text false bs e h = refl

pub returns-in-Ok : goal.returns-in-Ok
returns-in-Ok c = sym (is_utf8-from_IsUtf8 _ c.in-Ok.ensures.cases.1)

pub returns-in-Err : goal.returns-in-Err
returns-in-Err c = not_text (is_utf8 c.args.content.now) c.args.content.now refl c.in-Err.ensures.cases.0
