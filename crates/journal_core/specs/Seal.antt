-- The two writes that make a body count: the body and a closed gate behind it, and then the open gate before it.
use Rattle.std.specs.Prelude.{◌≡◌, ℕ, List, [], ◌∷◌, ◌++◌, length, Result, Ok, Err}
use Rattle.cmp_ports.specs.Disk.{Every}
use Rattle.journal_core.specs.declared.seal.Unsealed.{Unsealed}
use Rattle.journal_core.specs.declared.seal.Unsealed.TheVariants.{Before, Gate}
use Rattle.journal_core.specs.Log.{ClosedAfter}
use Rattle.journal_core.specs.Staged.{StagedAfter}

-- the octets are this body and a closed gate, to be written behind the closed gate that stands after the front
pub record IsBodyFor (front body octets : List ℕ) (gate : ℕ) (images : List ℕ → Type 0) : Type 0 where
  pub at : length front ≡ gate
  pub spelled : octets ≡ body ++ 0 ∷ []
  pub closed : Every images (ClosedAfter front)

-- sealed the body counts in each image; before the gate's write it counts in none; else it stands behind the gate
abbrev pub IsSealed : {T : Type 0} → List ℕ → List ℕ → Result T Unsealed → (List ℕ → Type 0) → Type 0
IsSealed front body (Ok _) images = Every images (ClosedAfter (front ++ 1 ∷ body))
IsSealed front body (Err Before) images = Every images (ClosedAfter front)
IsSealed front body (Err Gate) images = Every images (StagedAfter front body)
