-- The loop went to the end.
use Rattle.std.proofs.Common.{sym}
use Rattle.http_heads.proofs.NumberLemmas.{all_at}
use Rattle.http_heads.proofs.number.are_digits.Goals as goal

pub returns : goal.returns
returns c = sym (all_at _ _ c.loop-octet-test.false c.loop-octet.invariant)
