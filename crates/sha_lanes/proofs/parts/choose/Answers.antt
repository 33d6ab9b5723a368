use Rattle.std.proofs.Common.{◌≡◌, ℕ, ◌<◌, ◌-◌, ◌^◌, [], ◌∷◌, false, slice_index, slice_index_or, ◌∙◌}
use Rattle.std.specs.Prelude.{if◌then◌else◌}
use Rattle.sha_lanes.specs.Lanes.{lane}
use Rattle.sha_lanes.proofs.LaneLemmas.{below_four}
use Rattle.sha_lanes.proofs.Lanes.{lane_length, lane_read, listed_is}
use Rattle.sha_lanes.proofs.PartWords.{chosen_all}
use Rattle.sha_lanes.proofs.parts.choose.Goals as goal

pub returns : goal.returns
returns c i low =
    let goes = c.args.goes_on.now in
    let new = c.args.new.now in
    let old = c.args.old.now in
    let mask = c.mask.result ∷ c.mask-2.result ∷ c.mask-3.result ∷ c.mask-4.result ∷ [] in
    let masks : (k : ℕ) → k < 4 → slice_index mask k ≡ (if slice_index_or goes k false then 2 ^ 32 - 1 else 0) =
    below_four (λ k. slice_index mask k ≡ (if slice_index_or goes k false then 2 ^ 32 - 1 else 0)) c.mask.ensures c.mask-2.ensures c.mask-3.ensures c.mask-4.ensures in
    chosen_all (slice_index_or goes i false) (slice_index mask i) _ (lane i new) (lane i old) (masks i low)
    (λ is. rw (c.chosen.ensures.new i low is, c.chosen-2.ensures.new i low is, c.chosen-3.ensures.new i low is, c.chosen-4.ensures.new i low is, c.chosen-5.ensures.new i low is, c.chosen-6.ensures.new i low is, c.chosen-7.ensures.new i low is, c.chosen-8.ensures.new i low is, ← lane_read i 0 new, ← lane_read i 1 new, ← lane_read i 2 new, ← lane_read i 3 new, ← lane_read i 4 new, ← lane_read i 5 new, ← lane_read i 6 new, ← lane_read i 7 new) (listed_is 8 (lane i new) (lane_length i new ∙ c.told-new)))
    (λ is. rw (c.chosen.ensures.old i low is, c.chosen-2.ensures.old i low is, c.chosen-3.ensures.old i low is, c.chosen-4.ensures.old i low is, c.chosen-5.ensures.old i low is, c.chosen-6.ensures.old i low is, c.chosen-7.ensures.old i low is, c.chosen-8.ensures.old i low is, ← lane_read i 0 old, ← lane_read i 1 old, ← lane_read i 2 old, ← lane_read i 3 old, ← lane_read i 4 old, ← lane_read i 5 old, ← lane_read i 6 old, ← lane_read i 7 old) (listed_is 8 (lane i old) (lane_length i old ∙ c.told-old)))
