use Rattle.std.proofs.Common.{ℕ, List, slice_index, ap, ◌∙◌}
use Rattle.sha2.specs.Sha256.{add_state, compress}
use Rattle.sha2.proofs.Schedule256.{IsWindow_first, slice_index-first_words}
use Rattle.sha_lanes.specs.Lanes.{lane}
use Rattle.sha_lanes.proofs.Lanes.{lane_length}
use Rattle.sha_lanes.proofs.compress.compress_rest.Goals as goal

pub returns : goal.returns
unfolding compress
returns c = λ i b low is started.
    let ws = c.args.words.now in
    let h = lane i c.args.state in
    let window = IsWindow_first b (lane i ws) (lane_length i ws ∙ c.told-words)
    (λ k lt. ap (λ (l : List ℕ). slice_index l k) is ∙ slice_index-first_words b 16 k lt) in
    let s1 = c.sixteen_steps-v.ensures i b h low (window, c.eleven_steps-v.ensures i b h low window started) in
    let s2 = c.sixteen_steps-v-2.ensures i b h low s1 in
    let s3 = c.sixteen_steps-last.ensures i b h low s2 in
    c.add_state.ensures i low ∙ ap (add_state h) s3.1
