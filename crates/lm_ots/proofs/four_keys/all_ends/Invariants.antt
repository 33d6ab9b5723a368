-- The ends of the first i chains are written.
use Rattle.std.proofs.Common.{◌≡◌, ℕ, ◌+◌, ◌<◌, [], length, slice_index_or}
use Rattle.lm_ots.specs.Chains.{chain_end}
use Rattle.lm_ots.specs.Runs.{value_in}
use Rattle.lm_ots.proofs.four_keys.all_ends.Given as goal

abbrev pub invariant-loop-i : goal.invariant-loop-i
invariant-loop-i g l = record {
  size : length l.ends ≡ g.row.P;
  written : (i k : ℕ) → i < l.i → k < 4
      → value_in (slice_index_or l.ends i []) k ≡ chain_end (record { w = g.row.W; p = g.row.P; ls = g.row.LS }) l.key.seed l.key.id (l.q + k) i;
}
