use Rattle.sha_lanes.proofs.rounds.eleven_steps.Goals as goal

pub returns : goal.returns
returns c = λ i b h low window held.
    let s5 = c.first_step-v.ensures i b h low window held in
    let s6 = c.first_step-v-2.ensures i b h low window s5 in
    let s7 = c.first_step-v-3.ensures i b h low window s6 in
    let s8 = c.first_four_steps-v.ensures i b h low window s7 in
    c.first_four_steps.ensures i b h low window s8
