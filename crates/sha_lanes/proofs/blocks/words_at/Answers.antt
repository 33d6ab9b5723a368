use Rattle.sha_lanes.proofs.LaneLemmas.{below_four}
use Rattle.sha_lanes.proofs.blocks.words_at.Goals as goal

pub returns : goal.returns
returns c = below_four _ c.word.ensures c.word-2.ensures c.word-3.ensures c.word-4.ensures
