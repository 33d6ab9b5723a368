-- by the test of rows of texts
use Rattle.std.proofs.Common.{IsTrue, subst, sym, Bool, ◌↔◌}
use Rattle.asn_types.specs.Rows.{IsRowOf}
use Rattle.asn_parts.specs.Text.{IsText}
use Rattle.asn_parts.proofs.TextLemmas.{texts_test}
use Rattle.asn_parts.proofs.texts.are_texts.Goals as goal

pub returns-clause-row : goal.returns-clause-row
returns-clause-row c = subst (λ (b : Bool). IsTrue b ↔ IsRowOf IsText c.args.«content».now) (sym c.row_of_texts.ensures) (texts_test c.args.«content».now)
