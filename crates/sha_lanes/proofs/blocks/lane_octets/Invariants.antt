use Rattle.std.proofs.Common.{◌≡◌, ◌*◌, length, take}
use Rattle.sha2.specs.Sha256.{digest_bytes}
use Rattle.sha_lanes.specs.Lanes.{lane}
use Rattle.sha_lanes.proofs.blocks.lane_octets.Given as goal

abbrev pub invariant-words : goal.invariant-words
invariant-words l = (length l.octets ≡ 32) × (take (4 * l.t) l.octets ≡ digest_bytes (lane l.i l.words) l.t)
