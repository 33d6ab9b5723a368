-- The hasher holds the ends so far.
use Rattle.std.proofs.Common.{ℕ, ◌<◌, List, ◌++◌, length}
use Rattle.sha2.specs.Hashers.{Holds256}
use Rattle.lm_ots.specs.Chains.{prefix, joined}
use Rattle.lm_ots.specs.Runs.{Settled}
use Rattle.lm_ots.proofs.key.hash_of_ends.Given as goal

abbrev pub invariant-loop-i : goal.invariant-loop-i
invariant-loop-i l = (f : ℕ → List ℕ) → ((i : ℕ) → i < length l.ends → Settled f l.ends i)
    → Holds256 l.hasher (prefix l.id l.q 0x8080 ++ joined f l.i)
