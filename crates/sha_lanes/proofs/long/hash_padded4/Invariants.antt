-- Each lane has taken in the first t blocks of its message.
use Rattle.std.proofs.Common.{◌≡◌, ℕ, ◌<◌, [], slice_index_or}
use Rattle.sha2.specs.Sha256.{hash_after, initial_hash_256}
use Rattle.sha_lanes.specs.Lanes.{lane}
use Rattle.sha_lanes.proofs.long.hash_padded4.Given as goal

abbrev pub invariant-loop-t : goal.invariant-loop-t
invariant-loop-t g l = (i : ℕ) → i < 4 → lane i l.state ≡ hash_after initial_hash_256 (slice_index_or l.padded i []) l.t
