use Rattle.std.proofs.Common.{slice_index, ◌*◌, ◌%◌}
use Rattle.sha_lanes.proofs.LaneLemmas.{lane_splat}
use Rattle.sha_lanes.proofs.PartWords.{lane_fits, placed_octets}
use Rattle.sha_lanes.proofs.parts.with_place.Goals as goal

pub returns : goal.returns
returns c i p q low is =
    rw (c.add.ensures i low, c.shift.ensures i low, c.add-placed.ensures i low, lane_splat (c.from.result * 256 % 4294967296) i low, c.from.ensures)
    (placed_octets (slice_index c.args.front i) p q c.args.place (slice_index c.args.x i) (lane_fits c.args.front i low c.fits-front.0 c.fits-front.1)
    c.ranges.place.fits (lane_fits c.args.x i low c.fits-x.0 c.fits-x.1) is)
