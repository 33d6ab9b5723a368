-- What the payloads behind the key's say.
use Rattle.std.specs.Prelude.{◌≡◌, ℕ, suc, List, ◌∷◌, ◌++◌, length}
use Rattle.leaf_book.specs.declared.reading.LeavesFault.{LeavesFault}
use Rattle.leaf_book.specs.declared.reading.LeavesFault.TheVariants.{Other, NoMemory}
use Rattle.leaf_book.specs.Leaves.{Digests, leaves_from}
use Rattle.leaf_book.specs.Mounted.{IsAt, AreGiven}

-- the payloads begin with those of so many leaves, and the next one isn't the next leaf's
pub record HasOther (payloads : List (List ℕ)) (leaf : ℕ) : Type 0 where
  pub given : Digests
  pub payload : List ℕ
  pub more : List (List ℕ)
  pub parts : payloads ≡ leaves_from 0 given ++ payload ∷ more
  pub are : AreGiven given
  pub count : length given ≡ leaf
  pub other : IsAt (suc leaf) payload → ⊥

-- the payloads are those of these leaves
abbrev pub AreLeaves : List (List ℕ) → Digests → Type 0
AreLeaves payloads given = (payloads ≡ leaves_from 0 given) × AreGiven given

-- why the payloads aren't those of leaves
abbrev pub StopsLeaves : List (List ℕ) → LeavesFault → Type 0
StopsLeaves payloads (Other leaf) = HasOther payloads leaf
StopsLeaves payloads NoMemory = Unit {0}
