-- The first i ends are written.
use Rattle.std.proofs.Common.{◌≡◌, ℕ, ◌+◌, ◌*◌, ◌<◌, List, [], ◌++◌, length, slice_index_or}
use Rattle.lm_ots.specs.Chains.{joined, prefix}
use Rattle.lm_ots.specs.Runs.{IsFilled, value_in}
use Rattle.lm_ots.proofs.four_keys.ends_message.Given as goal

abbrev pub invariant-loop-i : goal.invariant-loop-i
invariant-loop-i l = (f : ℕ → List ℕ) → ((i : ℕ) → i < length l.ends → value_in (slice_index_or l.ends i []) l.k ≡ f i)
    → IsFilled l.message (prefix l.id l.q 0x8080 ++ joined f l.i) (22 + 32 * l.i)
