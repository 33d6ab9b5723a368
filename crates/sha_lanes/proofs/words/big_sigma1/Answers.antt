use Rattle.std.proofs.Common.{arith}
use Rattle.sha_lanes.proofs.Rotations.{rotated_three}
use Rattle.sha_lanes.proofs.PartWords.{lane_fits}
use Rattle.sha_lanes.proofs.words.big_sigma1.Goals as goal

pub returns : goal.returns
returns c i low =
    rw (c.rotate-3.ensures i low, c.xor-outer.ensures i low, c.rotate-2.ensures i low, c.xor-inner.ensures i low, c.rotate.ensures i low)
    (rotated_three 32 _ 6 5 14 (omega arith) (lane_fits c.args.x i low c.fits-x.0 c.fits-x.1))
