use Rattle.std.proofs.Common.{arith}
use Rattle.sha_lanes.proofs.LaneLemmas.{below_four}
use Rattle.sha_lanes.proofs.PartWords.{is_front}
use Rattle.sha_lanes.proofs.parts.front_words.Goals as goal

pub returns : goal.returns
returns c =
    below_four _
    (is_front _ _ _ _ _ _ _ _ c.filled.ensures.size c.filled.ensures.octets (c.front_word.ensures 0 (omega arith)) (c.front_word-2.ensures 0 (omega arith)) (c.front_word-3.ensures 0 (omega arith)) (c.front_word-4.ensures 0 (omega arith)) (c.front_word-5.ensures 0 (omega arith)) (c.front_word-6.ensures 0 (omega arith)))
    (is_front _ _ _ _ _ _ _ _ c.filled-2.ensures.size c.filled-2.ensures.octets (c.front_word.ensures 1 (omega arith)) (c.front_word-2.ensures 1 (omega arith)) (c.front_word-3.ensures 1 (omega arith)) (c.front_word-4.ensures 1 (omega arith)) (c.front_word-5.ensures 1 (omega arith)) (c.front_word-6.ensures 1 (omega arith)))
    (is_front _ _ _ _ _ _ _ _ c.filled-3.ensures.size c.filled-3.ensures.octets (c.front_word.ensures 2 (omega arith)) (c.front_word-2.ensures 2 (omega arith)) (c.front_word-3.ensures 2 (omega arith)) (c.front_word-4.ensures 2 (omega arith)) (c.front_word-5.ensures 2 (omega arith)) (c.front_word-6.ensures 2 (omega arith)))
    (is_front _ _ _ _ _ _ _ _ c.filled-4.ensures.size c.filled-4.ensures.octets (c.front_word.ensures 3 (omega arith)) (c.front_word-2.ensures 3 (omega arith)) (c.front_word-3.ensures 3 (omega arith)) (c.front_word-4.ensures 3 (omega arith)) (c.front_word-5.ensures 3 (omega arith)) (c.front_word-6.ensures 3 (omega arith)))
