use Rattle.std.proofs.Common.{ℕ, List, slice_index, sym, ap, ◌∙◌}
use Rattle.sha_lanes.proofs.Lanes.{lane_read}
use Rattle.sha_lanes.proofs.blocks.lane_word.Goals as goal

pub returns : goal.returns
returns c = ap (λ (v : List ℕ). slice_index v c.args.i) c.as_array.ensures ∙ sym (lane_read c.args.i c.args.t c.args.words.now)
