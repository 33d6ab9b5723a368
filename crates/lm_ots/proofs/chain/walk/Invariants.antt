-- What is left of the chain leads to its end.
use Rattle.std.proofs.Common.{◌≡◌, ℕ, List, take, drop}
use Rattle.lm_ots.specs.Chains.{prefix, chain}
use Rattle.lm_ots.proofs.chain.walk.Given as goal

abbrev pub invariant-loop-j : goal.invariant-loop-j
invariant-loop-j l = record {
  front : take 22 l.message ≡ take 22 l.fn.message;
  value : (id : List ℕ) (q i : ℕ) → take 22 l.fn.message ≡ prefix id q i
      → chain id q i l.j l.to (drop 23 l.message) ≡ chain id q i l.from l.to (drop 23 l.fn.message);
}
