-- The one element is read exactly where it is spelled.
use Rattle.asn_fields.proofs.FieldLemmas.{sole_found, sole_only}
use Rattle.asn_fields.proofs.fields.sole.Goals as goal

pub returns-clause-found : goal.returns-clause-found
returns-clause-found c = sole_found _ _ _ c.field_alone.ensures.exact

pub returns-clause-only : goal.returns-clause-only
returns-clause-only c = sole_only _ _ _ c.field_alone.ensures.exact
