use Rattle.sha_lanes.proofs.LaneLemmas.{below_four}
use Rattle.sha_lanes.proofs.blocks.value_octets.Goals as goal

pub returns : goal.returns
returns c = below_four _ c.lane_octets.ensures c.lane_octets-2.ensures c.lane_octets-3.ensures c.lane_octets-4.ensures
