-- What a disk holds of a history. The payloads of its journal are the spellings of the changes.
use Rattle.std.specs.Prelude.{◌≡◌, ◌⊎◌, ℕ, List, [], ◌∷◌, ◌++◌, map, Option, Some, None, is_some}
use Rattle.cmp_ports.specs.Disk.{Every}
use Rattle.journal_core.specs.declared.journal.Journal.{Journal}
use Rattle.journal_core.specs.Journal.{IsKept, is_doubtful}
use Rattle.journal_core.specs.Log as log
use Rattle.deal_changes.specs.declared.change.Change.{Change}
use Rattle.deal_changes.specs.Spelling.{spelling}
use Rattle.deal_model.specs.Views.{History}
use Rattle.deal_model.specs.Rules.{Allowed}

-- the seven octets CMPLOG1
abbrev pub magic : List ℕ
magic = 67 ∷ 77 ∷ 80 ∷ 76 ∷ 79 ∷ 71 ∷ 49 ∷ []

abbrev pub spellings : History → List (List ℕ)
spellings h = map spelling h

-- the image recovers to the history
abbrev pub Recovers : List ℕ → History → Type 0
Recovers image h = log.Recovers magic image (spellings h)

-- the image recovers to the history, or to the history with one change behind it that is such a one
abbrev pub RecoversWith : History → (Change → Type 0) → List ℕ → Type 0
RecoversWith h Extra image = Recovers image h ⊎ ((c : Change) × Extra c × Recovers image (h ++ c ∷ []))

-- the change is in doubt
abbrev pub IsDoubt : Option Change → Change → Type 0
IsDoubt doubt c = doubt ≡ Some c

-- the change is in doubt, or it is the call's own
abbrev pub DoubtOr : Option Change → (Change → Type 0) → Change → Type 0
DoubtOr doubt Own c = IsDoubt doubt c ⊎ Own c

-- the change is such a one, and may come next
abbrev pub MayCome : (Change → Type 0) → History → Change → Type 0
MayCome Own h c = Own c × Allowed h c

-- each image recovers to the history, or to it with the change in doubt
abbrev pub Images : (List ℕ → Type 0) → History → Option Change → Type 0
Images images h doubt = Every images (RecoversWith h (IsDoubt doubt))

-- the octets of the change in doubt
abbrev pub doubtful : Option Change → List ℕ
doubtful None = []
doubtful (Some c) = spelling c

-- The journal keeps the history on a disk of these images, and what it has in doubt is this change.
abbrev pub Keeps : History → Option Change → Journal → (List ℕ → Type 0) → Type 0
Keeps h doubt journal images = IsKept magic (spellings h) (doubtful doubt) journal images × (is_doubtful journal ≡ is_some doubt)
