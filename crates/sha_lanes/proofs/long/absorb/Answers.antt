use Rattle.std.proofs.Common.{[], slice_index_or}
use Rattle.sha_lanes.proofs.long.absorb.Goals as goal

pub returns : goal.returns
returns c = λ i low.
    c.compress4.ensures i (slice_index_or c.args.blocks.now i []) low (c.block_words.ensures i low)
