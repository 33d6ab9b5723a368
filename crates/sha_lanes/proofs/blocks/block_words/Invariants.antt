use Rattle.std.proofs.Common.{◌≡◌, ℕ, ◌<◌, ◌*◌, [], length, slice_index, slice_index_or}
use Rattle.sha2.specs.Sha256.{word_at}
use Rattle.sha_lanes.specs.Lanes.{lane}
use Rattle.sha_lanes.proofs.blocks.block_words.Given as goal

-- the first t words of each lane are its block's
abbrev pub invariant-words : goal.invariant-words
invariant-words l = (length l.words ≡ 16) × ((i : ℕ) → i < 4
    → (k : ℕ) → k < l.t → slice_index (lane i l.words) k ≡ word_at (slice_index_or l.blocks i []) (4 * k))
