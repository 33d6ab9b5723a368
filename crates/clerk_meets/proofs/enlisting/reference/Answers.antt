use Rattle.std.proofs.Common.{◌≡◌, ℕ, zero, suc, ◌<◌, List, [], ◌∷◌, length, refl, sym, ◌∙◌, ap, subst, arith}
use Rattle.std.specs.Str.{IsAscii}
use Rattle.std.proofs.lemmas.Str.{IsUtf8-from_ascii, is_utf8-from_IsUtf8}
use Rattle.std.proofs.lemmas.Grind.{common_steps}
use Rattle.deal_changes.specs.declared.change.Kind.TheVariants.{Mac}
use Rattle.deal_changes.specs.declared.change.Credential.{Credential}
use Rattle.desk.specs.Listings.{AreFit}
use Rattle.clerk_meets.proofs.enlisting.reference.Goals as goal

abbrev one : List ℕ → List ℕ → List Credential
one kid material = record { kind = Mac; kid = kid; material = material; rights = 1 } ∷ []

abbrev digits : List ℕ
digits = 48 ∷ 49 ∷ 50 ∷ 51 ∷ 52 ∷ 53 ∷ 54 ∷ 55 ∷ []

ascii : (letter number : ℕ) → letter < 128 → number < 128 → IsAscii (letter ∷ number ∷ [])
ascii letter number low few zero = low
ascii letter number low few (suc zero) = few
ascii letter number low few (suc (suc i)) = grind (arith, common_steps)

fits : (letter number : ℕ) → letter < 128 → number < 128 → AreFit (one (letter ∷ number ∷ []) digits)
fits letter number low few = (record { kid_low = omega arith; kid_high = omega arith; text = is_utf8-from_IsUtf8 (letter ∷ number ∷ []) (IsUtf8-from_ascii (letter ∷ number ∷ []) (ascii letter number low few)); secret_low = omega arith; secret_high = omega arith }, omega arith, refl, tt)

pub returns : goal.returns
returns c =
    let whole : c.of-3.result ≡ one c.in-Some.kid c.in-Some-of.material = c.of-3.ensures ∙ c.in_ok-vec.ensures.items in
    let first = subst (λ (kid : List ℕ). AreFit (one kid digits)) (sym c.in-Some.ensures.value) (fits c.args.letter c.args.number c.requires.letter c.requires.number) in
    let both = subst (λ (material : List ℕ). AreFit (one c.in-Some.kid material)) (sym c.in-Some-of.ensures.value) first in
    (subst AreFit (sym whole) both, ap (λ (l : List Credential). length l) whole)
