-- What is left of each lane's chain leads to its end.
use Rattle.std.proofs.Common.{◌≡◌, ℕ, ◌<◌, List, max, slice_index}
use Rattle.sha2.specs.Sha256.{digest_bytes}
use Rattle.sha_lanes.specs.Fronts.{HasFront}
use Rattle.sha_lanes.specs.Lanes.{lane}
use Rattle.lm_ots.specs.Chains.{chain, prefix}
use Rattle.lm_ots.proofs.four.walk.Given as goal

abbrev pub invariant-loop-j : goal.invariant-loop-j
invariant-loop-j l = (k q i : ℕ) (id : List ℕ) → k < 4 → HasFront k (prefix id q i) l.front l.started
    → chain id q i (max (slice_index l.from k) l.j) (slice_index l.to k) (digest_bytes (lane k l.value) 8)
    ≡ chain id q i (slice_index l.from k) (slice_index l.to k) (digest_bytes (lane k l.fn.start) 8)
