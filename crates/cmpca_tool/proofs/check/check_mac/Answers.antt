-- The MAC is compared with that of the protected part.
use Rattle.std.proofs.Common.{◌∙◌}
use Rattle.cmpca_tool.proofs.MacLemmas.{right_mac, wrong_mac, no_bool}
use Rattle.cmpca_tool.proofs.check.check_mac.Goals as goal

pub returns-then-mac_ok : goal.returns-then-mac_ok
returns-then-mac_ok c = right_mac _ _ _ _ _ (c.as_slice.ensures ∙ c.in_ok-part.ensures) (c.mac_ok.ensures.0 c.if-mac_ok.true)

pub returns : goal.returns
returns c = wrong_mac _ _ _ _ _ (c.as_slice.ensures ∙ c.in_ok-part.ensures) (λ h. no_bool _ c.if-mac_ok.false (c.mac_ok.ensures.1 h))
