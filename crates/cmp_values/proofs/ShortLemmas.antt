-- Octets copied to the front of a blank array.
use Rattle.std.specs.Prelude.{ℕ, List, ◌≡◌, ◌≤◌, ◌++◌, length, drop, replicate}
use Rattle.std.proofs.Common.{arith}
use Rattle.std.proofs.lemmas.List.{drop-replicate, length-replicate, length-append, length-drop}
use Rattle.std.proofs.Math.Seq.{drop-append_seam}
use Rattle.cmp_values.specs.Filled.{IsFilled}

-- at most 64 octets in front of what a blank array has behind them
pub filled_copy : (used bytes : List ℕ) → used ≡ bytes → length bytes ≤ 64
    → IsFilled (used ++ drop (length bytes) (replicate 64 0)) (length bytes)
filled_copy used bytes same fits = record {
  fits = fits;
  whole = grind (arith, same, fits, length-append, length-drop, length-replicate);
  blank = cc (same, drop-append_seam bytes (drop (length bytes) (replicate 64 0)), drop-replicate {X = ℕ} (length bytes) 64 0);
}
