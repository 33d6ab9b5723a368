-- What messages of 55 octets begin with, as it stays while their ends change.
use Rattle.std.specs.Prelude.{ℕ, ◌≡◌, List}
use Rattle.sha2.specs.Sha256.{initial_hash_256, rounds}
use Rattle.sha_lanes.specs.Blocks.{IsFrontOf}
use Rattle.sha_lanes.specs.Lanes.{lane}

-- lane i has the words of 22 octets, and the working variables after the rounds of the first five
pub record HasFront (i : ℕ) (front : List ℕ) (words started : List (List ℕ)) : Type 0 where
  pub is_front : IsFrontOf front (lane i words)
  pub begun : lane i started ≡ rounds initial_hash_256 (lane i words) 5
