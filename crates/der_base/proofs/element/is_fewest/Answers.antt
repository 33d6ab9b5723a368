-- Each arm is the test of the list at its length.
use Rattle.std.proofs.Common.{◌∙◌, arith}
use Rattle.der_base.proofs.LengthLemmas.{fewest_at, is_fewest-none, is_fewest-great, is_fewest-small}
use Rattle.der_base.proofs.element.is_fewest.Goals as goal

pub returns-in-empty : goal.returns-in-empty
returns-in-empty c after =
    fewest_at _ _ _ (λ k. omega (arith, c.type_inv.more k)) c.requires.counted c.requires.stands after ∙ is_fewest-none _ _ _ c.in-empty.len_below

pub returns-then-size-ge128 : goal.returns-then-size-ge128
returns-then-size-ge128 c after =
    fewest_at _ _ _ (λ k. omega (arith, c.type_inv.more k)) c.requires.counted c.requires.stands after ∙ is_fewest-great _ _ _ c.in-len1-up.len_at_least c.if-size-ge128.true

pub returns-else-size-ge128 : goal.returns-else-size-ge128
returns-else-size-ge128 c after =
    fewest_at _ _ _ (λ k. omega (arith, c.type_inv.more k)) c.requires.counted c.requires.stands after ∙ is_fewest-small _ _ _ c.in-len1-up.len_at_least c.if-size-ge128.false
