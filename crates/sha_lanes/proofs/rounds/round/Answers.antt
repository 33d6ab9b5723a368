use Rattle.std.proofs.Common.{refl}
use Rattle.sha_lanes.proofs.Lanes.{lane_read}
use Rattle.sha_lanes.proofs.LaneLemmas.{lane_splat}
use Rattle.sha_lanes.proofs.rounds.round.Goals as goal

pub returns : goal.returns
returns c i h =
    rw (
      c.add.ensures i h,
      c.add-2.ensures i h,
      c.add-temp2.ensures i h,
      c.add-temp1.ensures i h,
      c.add-with_constant.ensures i h,
      c.add-with_choice.ensures i h,
      c.add-with_sigma.ensures i h,
      c.big_sigma0.ensures i h,
      c.big_sigma1.ensures i h,
      c.ch.ensures i h,
      c.maj.ensures i h,
      lane_read i 0 c.args.v,
      lane_read i 1 c.args.v,
      lane_read i 2 c.args.v,
      lane_read i 3 c.args.v,
      lane_read i 4 c.args.v,
      lane_read i 5 c.args.v,
      lane_read i 6 c.args.v,
      lane_read i 7 c.args.v,
      lane_splat c.args.k i h,
    ) refl
