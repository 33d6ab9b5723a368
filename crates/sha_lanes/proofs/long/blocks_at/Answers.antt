use Rattle.sha_lanes.proofs.LaneLemmas.{below_four}
use Rattle.sha_lanes.proofs.long.blocks_at.Goals as goal

pub returns : goal.returns
returns g c = below_four _ c.block_at.ensures c.block_at-2.ensures c.block_at-3.ensures c.block_at-4.ensures
