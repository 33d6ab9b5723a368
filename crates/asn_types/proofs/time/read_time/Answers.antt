-- by the tag of the element
use Rattle.std.proofs.Common.{inl, inr}
use Rattle.asn_types.proofs.time.read_time.Goals as goal

pub returns-clause-only : goal.returns-clause-only
returns-clause-only c = λ t h. elim h [
  | inl u ↦ c.time_element.ensures.only_utc t u.0 u.1
  | inr g ↦ c.time_element.ensures.only_generalized t g.0 g.1
]
