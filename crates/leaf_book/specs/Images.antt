-- What a disk holds of a leaf book.
use Rattle.std.specs.Prelude.{◌≡◌, ◌⊎◌, ℕ, List, [], ◌∷◌, ◌++◌, length, Option, Some, None, is_some}
use Rattle.journal_core.specs.declared.journal.Journal.{Journal}
use Rattle.journal_core.specs.Journal.{IsKept, is_doubtful}
use Rattle.journal_core.specs.Log as log
use Rattle.lms_tree.specs.Keys.{Secret}
use Rattle.leaf_book.specs.Leaves.{Digests, magic, leaf_payload, payloads_of, lms_key}

-- the image recovers to the book of this key that has given these leaves
abbrev pub Recovers : Secret → Digests → List ℕ → Type 0
Recovers s given image = log.Recovers magic image (payloads_of (lms_key s) given)

-- it recovers to that book, or to that book with the next leaf given to such a digest
abbrev pub RecoversWith : Secret → Digests → (List ℕ → Type 0) → List ℕ → Type 0
RecoversWith s given Extra image = Recovers s given image ⊎ ((d : List ℕ) × Extra d × Recovers s (given ++ d ∷ []) image)

-- the digest is in doubt
abbrev pub IsDoubt : Option (List ℕ) → List ℕ → Type 0
IsDoubt doubt d = doubt ≡ Some d

-- the digest is in doubt, or it is this one
abbrev pub DoubtOr : Option (List ℕ) → List ℕ → List ℕ → Type 0
DoubtOr doubt own d = IsDoubt doubt d ⊎ (d ≡ own)

-- the payload in doubt: the next leaf's, with this digest
abbrev pub doubtful : Digests → Option (List ℕ) → List ℕ
doubtful given None = []
doubtful given (Some d) = leaf_payload (length given) d

-- The journal keeps the book on a disk of these images, and what it has in doubt is the next leaf with this digest.
abbrev pub Keeps : Secret → Digests → Option (List ℕ) → Journal → (List ℕ → Type 0) → Type 0
Keeps s given doubt journal images = IsKept magic (payloads_of (lms_key s) given) (doubtful given doubt) journal images × (is_doubtful journal ≡ is_some doubt)
