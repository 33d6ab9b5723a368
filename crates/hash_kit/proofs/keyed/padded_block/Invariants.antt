use Rattle.std.proofs.Common.{◌≡◌, ℕ, ◌<◌, length, get_or, bit_xor}
use Rattle.hash_kit.proofs.keyed.padded_block.Given as goal

-- the octets below the index are combined
abbrev pub invariant-loop-i : goal.invariant-loop-i
invariant-loop-i l = record {
  long : length l.out ≡ 64;
  done : (k : ℕ) → k < l.i → get_or l.out k 0 ≡ bit_xor (get_or l.block k 0) l.octet;
}
