-- by the width of the number
use Rattle.std.proofs.Common.{ℕ, List, IsTrue, subst, sym}
use Rattle.der_base.specs.Values.{is_integer}
use Rattle.asn_parts.proofs.NumberLemmas.{number_form}
use Rattle.asn_parts.proofs.numbers.number.Goals as goal

pub returns-clause-form : goal.returns-clause-form
returns-clause-form c = subst (λ (l : List ℕ). IsTrue (is_integer l)) (sym c.last_octets.ensures.value) (number_form c.args.n c.ranges.n.fits)
