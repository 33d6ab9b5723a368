-- One field more before those that are left.
use Rattle.http_heads.proofs.FieldLemmas.{values_more, values_less}
use Rattle.http_heads.proofs.fields.+values_of.Goals as goal

pub returns-then-is_same : goal.returns-then-is_same
returns-then-is_same t c =
    values_more _ _ _ _ _ _ _ _ _ c.in-len1-up.len_at_least c.of.ensures c.of-then-is_same.ensures c.is_same.ensures c.if-is_same.true c.values_of-others.ensures c.behind.ensures

pub returns-else-is_same : goal.returns-else-is_same
returns-else-is_same t c =
    values_less _ _ _ _ _ _ _ c.in-len1-up.len_at_least c.of.ensures c.is_same.ensures c.if-is_same.false c.values_of-others.ensures
