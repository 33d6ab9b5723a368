use Rattle.sha_lanes.proofs.OneBlock as law
use Rattle.sha_lanes.proofs.blocks.one_block.Goals as goal

pub returns : goal.returns
returns c = law.one_block
