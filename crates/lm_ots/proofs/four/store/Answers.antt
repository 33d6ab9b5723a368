-- Each of the four values stands at its place.
use Rattle.std.proofs.Common.{arith}
use Rattle.lm_ots.proofs.FourLemmas.{stored}
use Rattle.lm_ots.proofs.four.store.Goals as goal

pub returns : goal.returns
returns c = λ f x four waits.
    stored f c.args.values.now c.args.picks.now _ _ _ _ x c.requires
    (four 0 (omega arith)) (four 1 (omega arith)) (four 2 (omega arith)) (four 3 (omega arith)) waits
