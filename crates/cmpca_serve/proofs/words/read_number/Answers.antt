use Rattle.std.proofs.Common.{◌≡◌, ◌∙◌, ℕ, true, false, Some, sym, ap, arith}
use Rattle.std.specs.Prelude.{not}
use Rattle.std.specs.Str.{bytes_eq}
use Rattle.std.proofs.lemmas.Slice.Eq.{bytes_eq-Decides}
use Rattle.std.specs.Fmt.{decimal}
use Rattle.cmpca_serve.proofs.WordLemmas.{parses, is_parsed}
use Rattle.cmpca_serve.proofs.words.read_number.Goals as goal

pub returns-in_default-clause-only : goal.returns-in_default-clause-only
returns-in_default-clause-only c = λ n is. absurd (c.in_default.not-Ok n (parses c.args.last n c.args.word.now c.parse.result c.ranges.last.fits c.parse.ensures.value.0 is))

pub returns-then-ne-clause-only : goal.returns-then-ne-clause-only
returns-then-ne-clause-only c = λ n is.
    let same : c.in-Ok.number ≡ n = is_parsed c.args.last c.in-Ok.number n c.args.word.now c.parse.result c.ranges.last.fits c.parse.ensures.value.0 c.in-Ok.is is in
    let word : c.args.word.now ≡ decimal c.in-Ok.number = is.0 ∙ ap (λ (m : ℕ). decimal m) (sym same) in
    let alike : bytes_eq c.format.result.now c.args.word.now ≡ true = (bytes_eq-Decides c.format.result.now c.args.word.now).1 (c.format.ensures.text ∙ sym word) in
    absurd (let both : true ≡ false = sym c.if-ne.true ∙ c.ne.ensures ∙ ap not alike in cc both)

pub returns-then-number-eq0-clause-only : goal.returns-then-number-eq0-clause-only
returns-then-number-eq0-clause-only c = λ n is. absurd (let same : c.in-Ok.number ≡ n = is_parsed c.args.last c.in-Ok.number n c.args.word.now c.parse.result c.ranges.last.fits c.parse.ensures.value.0 c.in-Ok.is is in omega (arith, same, is.1, c.if-number-eq0.true))

pub returns-then-number-last-clause-only : goal.returns-then-number-last-clause-only
returns-then-number-last-clause-only c = λ n is. absurd (let same : c.in-Ok.number ≡ n = is_parsed c.args.last c.in-Ok.number n c.args.word.now c.parse.result c.ranges.last.fits c.parse.ensures.value.0 c.in-Ok.is is in omega (arith, same, is.2, c.if-number-last.true))

pub returns-clause-only : goal.returns-clause-only
returns-clause-only c = λ n is. ap (λ (m : ℕ). Some m) (is_parsed c.args.last c.in-Ok.number n c.args.word.now c.parse.result c.ranges.last.fits c.parse.ensures.value.0 c.in-Ok.is is)
