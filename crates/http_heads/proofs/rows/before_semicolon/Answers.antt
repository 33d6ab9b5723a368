-- The first semicolon, or the end.
use Rattle.http_heads.proofs.TypeLemmas.{before_first, before_none}
use Rattle.http_heads.proofs.rows.before_semicolon.Goals as goal

pub returns-then-octet-eq59 : goal.returns-then-octet-eq59
returns-then-octet-eq59 c = before_first _ _ c.loop-count-test.true c.loop-count.invariant c.if-octet-eq59.true

pub returns : goal.returns
returns c = before_none _ _ c.loop-count-test.false c.loop-count.invariant
