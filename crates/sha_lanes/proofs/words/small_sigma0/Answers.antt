use Rattle.std.proofs.Common.{ℕ, arith, ap}
use Rattle.std.specs.Prelude.{bit_xor, slice_index, ◌/◌, ◌^◌}
use Rattle.sha_lanes.proofs.Rotations.{rotated_two}
use Rattle.sha_lanes.proofs.PartWords.{lane_fits}
use Rattle.sha_lanes.proofs.words.small_sigma0.Goals as goal

pub returns : goal.returns
returns c i low =
    rw (c.xor.ensures i low, c.rotate-2.ensures i low, c.xor-both.ensures i low, c.rotate.ensures i low, c.shift.ensures i low)
    (ap (λ (r : ℕ). bit_xor r (slice_index c.args.x i / 2 ^ 3)) (rotated_two 32 _ 7 11 (omega arith) (lane_fits c.args.x i low c.fits-x.0 c.fits-x.1)))
