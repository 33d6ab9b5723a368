use Rattle.std.proofs.Common.{refl}
use Rattle.sha2.specs.Sha256.{rounds}
use Rattle.sha_lanes.specs.Lanes.{lane}
use Rattle.sha_lanes.proofs.rounds.first_sixteen_steps.Goals as goal

pub returns : goal.returns
unfolding rounds
returns c = λ i b low window.
    let h = lane i c.args.state in
    let s1 = c.first_four_steps-v.ensures i b h low window refl in
    let s2 = c.first_four_steps-v-2.ensures i b h low window s1 in
    let s3 = c.first_four_steps-v-3.ensures i b h low window s2 in
    c.first_four_steps.ensures i b h low window s3
