use Rattle.std.proofs.Common.{refl, sym}
use Rattle.sha2.proofs.Schedule256.{rounds_first}
use Rattle.sha_lanes.specs.Lanes.{lane}
use Rattle.sha_lanes.proofs.Lanes.{lane_read}
use Rattle.sha_lanes.proofs.rounds.first_step.Goals as goal

pub returns : goal.returns
returns c = λ i b h low window held.
    rounds_first b h (lane i c.args.window.now) (lane i c.args.v) c.args.t _ _ _ c.requires window held refl
    (sym (lane_read i c.args.t c.args.window.now)) (c.round.ensures i low)
