use Rattle.std.proofs.Common.{refl}
use Rattle.sha_lanes.proofs.rounds.add_state.Goals as goal
use Rattle.sha_lanes.proofs.Lanes.{lane_read}

pub returns : goal.returns
returns c i h =
    rw (
      lane_read i 0 c.args.state,
      lane_read i 1 c.args.state,
      lane_read i 2 c.args.state,
      lane_read i 3 c.args.state,
      lane_read i 4 c.args.state,
      lane_read i 5 c.args.state,
      lane_read i 6 c.args.state,
      lane_read i 7 c.args.state,
      lane_read i 0 c.args.v,
      lane_read i 1 c.args.v,
      lane_read i 2 c.args.v,
      lane_read i 3 c.args.v,
      lane_read i 4 c.args.v,
      lane_read i 5 c.args.v,
      lane_read i 6 c.args.v,
      lane_read i 7 c.args.v,
      c.add.ensures i h,
      c.add-2.ensures i h,
      c.add-3.ensures i h,
      c.add-4.ensures i h,
      c.add-5.ensures i h,
      c.add-6.ensures i h,
      c.add-7.ensures i h,
      c.add-8.ensures i h,
    ) refl
