-- The reply is by how the order ended.
use Rattle.std.proofs.Common.{◌∙◌}
use Rattle.cmp_ports.specs.Moments.{weaker}
use Rattle.cmpca_tool.proofs.StepLemmas.{ordered_step, doubt_own, own_alone}
use Rattle.cmpca_tool.proofs.order.order_on.Goals as goal

pub returns-clause-reply : goal.returns-clause-reply
returns-clause-reply g c = record {
  ended = c.order-ordered.result;
  is_ended = rw c.requires.clear at c.order-ordered.ensures.ends;
  ends = c.says.ensures.ends ∙ c.ordered_status.ensures.status;
  says = c.says.ensures.says ∙ c.ordered_line.ensures;
}

pub returns-clause-makes : goal.returns-clause-makes
returns-clause-makes g c = ordered_step _ _ _ _ c.order-ordered.result _ (rw c.requires.clear at c.order-ordered.ensures.ends) (doubt_own _ _ _ _ c.requires.clear c.order-ordered.ensures.doubt)

pub returns-clause-moments : goal.returns-clause-moments
returns-clause-moments g c = weaker _ _ _ _ _ _ c.order-ordered.ensures.moments (λ image left. own_alone _ _ _ image c.requires.clear left)
