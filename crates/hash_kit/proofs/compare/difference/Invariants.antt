use Rattle.std.proofs.Common.{◌≡◌, ℕ, ◌<◌, get_or}
use Rattle.hash_kit.proofs.compare.difference.Given as goal

-- what is combined is 0 exactly where the octets below the index are the same
abbrev pub invariant-loop-i : goal.invariant-loop-i
invariant-loop-i l = record {
  same : l.all ≡ 0 → (k : ℕ) → k < l.i → get_or l.octets k 0 ≡ get_or l.mac k 0;
  none : ((k : ℕ) → k < l.i → get_or l.octets k 0 ≡ get_or l.mac k 0) → l.all ≡ 0;
}
