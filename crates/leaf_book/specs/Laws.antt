-- A leaf has one text, in a book and after each stop.
use Rattle.std.specs.Prelude.{◌≡◌, ℕ, List, ◌++◌}
use Rattle.sha2.specs.Sha256.{sha256}
use Rattle.lms_tree.specs.Keys.{Secret}
use Rattle.leaf_book.specs.Leaves.{Digests, HasGiven}
use Rattle.leaf_book.specs.Images.{RecoversWith}
use Rattle.leaf_book.specs.Mounted.{Opens}

-- whichever the digest is
abbrev pub IsAny : List ℕ → Type 0
IsAny d = Unit {0}

-- In a book and each later state of it, the texts of a leaf have one SHA-256.
abbrev pub OneTextPerLeaf : Type 0
OneTextPerLeaf = (given more : Digests) (leaf : ℕ) (a b : List ℕ) → HasGiven given leaf a → HasGiven (given ++ more) leaf b → sha256 a ≡ sha256 b

-- A stop leaves a book with these leaves given, or with one more: the book that opens on that image has them as they were, and
-- perhaps one more behind them.
abbrev pub StopsKeepLeaves : Type 0
StopsKeepLeaves = (s : Secret) (given later : Digests) (image : List ℕ) → RecoversWith s given IsAny image → Opens s image later → (more : Digests) × (later ≡ given ++ more)
