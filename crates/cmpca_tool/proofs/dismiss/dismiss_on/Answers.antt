-- The reply is by how the dismissal ended.
use Rattle.cmp_ports.specs.Moments.{weaker}
use Rattle.cmpca_tool.proofs.StepLemmas.{dismissed_step, doubt_own, own_alone}
use Rattle.cmpca_tool.proofs.dismiss.dismiss_on.Goals as goal

pub returns-clause-reply : goal.returns-clause-reply
returns-clause-reply g c =
    record { ended = c.dismiss-listing.result; is_ended = rw c.requires.clear at c.dismiss-listing.ensures.ends; ends = c.listing_status.ensures.status; says = c.listing_text.ensures }

pub returns-clause-makes : goal.returns-clause-makes
returns-clause-makes g c = dismissed_step _ _ _ _ _ c.dismiss-listing.result _ (rw c.requires.clear at c.dismiss-listing.ensures.ends) (doubt_own _ _ _ _ c.requires.clear c.dismiss-listing.ensures.doubt)

pub returns-clause-moments : goal.returns-clause-moments
returns-clause-moments g c = weaker _ _ _ _ _ _ c.dismiss-listing.ensures.moments (λ image left. own_alone _ _ _ image c.requires.clear left)
