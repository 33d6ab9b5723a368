use Rattle.sha_lanes.proofs.PartWords.{lane_fits, across_octets}
use Rattle.sha_lanes.proofs.parts.across.Goals as goal

pub returns : goal.returns
returns c i low =
    rw (c.add.ensures i low, c.shift_left.ensures i low, c.shift.ensures i low) (across_octets _ _ (lane_fits c.args.x i low c.fits-x.0 c.fits-x.1) (lane_fits c.args.y i low c.fits-y.0 c.fits-y.1))
