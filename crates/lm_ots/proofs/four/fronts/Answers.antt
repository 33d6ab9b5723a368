use Rattle.std.proofs.Common.{arith}
use Rattle.sha_lanes.proofs.LaneLemmas.{below_four}
use Rattle.lm_ots.proofs.four.fronts.Goals as goal

pub returns : goal.returns
returns c =
    below_four _ (rw c.front_of.ensures at (c.front_words.ensures 0 (omega arith))) (rw c.front_of-2.ensures at (c.front_words.ensures 1 (omega arith)))
    (rw c.front_of-3.ensures at (c.front_words.ensures 2 (omega arith))) (rw c.front_of-4.ensures at (c.front_words.ensures 3 (omega arith)))
