-- Each round takes its constant and its word.
use Rattle.std.proofs.Common.{refl, sym}
use Rattle.sha_lanes.specs.Lanes.{lane}
use Rattle.sha_lanes.proofs.FrontRounds.{rounds_more, rounds_none}
use Rattle.sha_lanes.proofs.Lanes.{lane_read}
use Rattle.sha_lanes.proofs.rounds.first_five_steps.Goals as goal

pub returns : goal.returns
returns c = λ i low.
    let h = lane i c.args.state in
    let words = c.args.words.now in
    let w = lane i words in
    let one = rounds_more h w h _ 0 _ _ (rounds_none h w) refl (sym (lane_read i 0 words)) (c.round-v.ensures i low) in
    let two = rounds_more h w _ _ 1 _ _ one refl (sym (lane_read i 1 words)) (c.round-v-2.ensures i low) in
    let three = rounds_more h w _ _ 2 _ _ two refl (sym (lane_read i 2 words)) (c.round-v-3.ensures i low) in
    let four = rounds_more h w _ _ 3 _ _ three refl (sym (lane_read i 3 words)) (c.round-v-4.ensures i low) in
    rounds_more h w _ _ 4 _ _ four refl (sym (lane_read i 4 words)) (c.round.ensures i low)
