use Rattle.std.proofs.Common.{◌≡◌, ℕ, ◌<◌, ◌≤◌, length, get_or, bit_xor}
use Rattle.hash_kit.proofs.password.combine.Given as goal

-- the octets below the index are combined, and the others stand
abbrev pub invariant-loop-i : goal.invariant-loop-i
invariant-loop-i l = record {
  long : length l.block ≡ 32;
  done : (k : ℕ) → k < l.i → get_or l.block k 0 ≡ bit_xor (get_or l.fn.block k 0) (get_or l.other k 0);
  kept : (k : ℕ) → l.i ≤ k → get_or l.block k 0 ≡ get_or l.fn.block k 0;
}
