use Rattle.sha_lanes.proofs.LaneLemmas.{lane_splat}
use Rattle.sha_lanes.proofs.PartWords.{lane_fits, padded_octets}
use Rattle.sha_lanes.proofs.parts.padded_word.Goals as goal

pub returns : goal.returns
returns c i low =
    rw (c.add.ensures i low, c.shift_left.ensures i low, lane_splat 0x80 i low) (padded_octets _ (lane_fits c.args.x i low c.fits-x.0 c.fits-x.1))
