-- What mount says of a disk's content.
use Rattle.std.specs.Prelude.{◌≡◌, ◌≢◌, ◌⊎◌, ℕ, zero, suc, ◌<◌, ◌≤◌, ◌^◌, true, false, List, [], ◌∷◌, ◌++◌, length}
use Rattle.journal_core.specs.Log as log
use Rattle.journal_core.specs.Log.{log_of, is_founded, IsDamaged}
use Rattle.lms_tree.specs.Keys.{Secret}
use Rattle.leaf_book.specs.declared.fault.BookFault.{BookFault}
use Rattle.leaf_book.specs.declared.fault.BookFault.TheVariants.{BadSet, Damaged, KeyMismatch, DiskFault, NoMemory}
use Rattle.leaf_book.specs.Leaves.{Digests, magic, key_payload, leaf_payload, payloads_of, AreDigests, lms_key, IsOwnSet}
use Rattle.leaf_book.specs.Images.{Recovers}

-- ---- the form of a book's payloads

-- the payload may stand at this place of a book: the key's at 0, and then each leaf's
abbrev pub IsAt : ℕ → List ℕ → Type 0
IsAt zero payload = (key : List ℕ) × (length key ≡ 56) × (payload ≡ key_payload key)
IsAt (suc leaf) payload = (digest : List ℕ) × (length digest ≡ 32) × (leaf < 2 ^ 32) × (payload ≡ leaf_payload leaf digest)

-- digests of leaves that four octets can number
abbrev pub AreGiven : Digests → Type 0
AreGiven given = AreDigests given × (length given ≤ 2 ^ 32)

-- the payloads are those of a book of this key that has given these leaves
abbrev pub IsBook : List ℕ → Digests → List (List ℕ) → Type 0
IsBook key given payloads = (payloads ≡ payloads_of key given) × (length key ≡ 56) × AreGiven given

-- at this place there isn't a book's first payload, or there is one that may not stand there
abbrev pub IsStuck : ℕ → List (List ℕ) → Type 0
IsStuck place [] = place ≡ 0
IsStuck place (payload ∷ more) = IsAt place payload → ⊥

-- The payloads begin with none or with those of a book. The log of these ends at this offset, and there it is stuck.
pub record IsMisformed (payloads : List (List ℕ)) (at : ℕ) : Type 0 where
  pub front : List (List ℕ)
  pub rest : List (List ℕ)
  pub parts : payloads ≡ front ++ rest
  pub good : (front ≡ []) ⊎ ((key : List ℕ) × (given : Digests) × IsBook key given front)
  pub offset : at ≡ length (log_of magic front)
  pub stuck : IsStuck (length front) rest

-- the payloads are those of a book of the key in the journal, which isn't the key in the file
abbrev pub IsOther : List ℕ → List ℕ → List (List ℕ) → Type 0
IsOther file journal payloads = (journal ≢ file) × ((given : Digests) × IsBook journal given payloads)

-- why the payloads aren't those of a book of this key
abbrev pub StopsBook : List ℕ → List (List ℕ) → BookFault → Type 0
StopsBook key payloads BadSet = ⊥
StopsBook key payloads (Damaged at) = IsMisformed payloads at
StopsBook key payloads (KeyMismatch file journal) = (file ≡ key) × IsOther file journal payloads
StopsBook key payloads DiskFault = ⊥
StopsBook key payloads NoMemory = Unit {0}

-- ---- the content

-- a book of this key opens on the image with these leaves given: with none where the image isn't founded
abbrev pub Opens : Secret → List ℕ → Digests → Type 0
Opens s image given = ((is_founded image ≡ false) × (given ≡ [])) ⊎ ((is_founded image ≡ true) × Recovers s given image × AreGiven given)

-- the log is damaged there, or it recovers to payloads that are no book's, from there on
abbrev pub IsBad : List ℕ → ℕ → Type 0
IsBad image at = IsDamaged magic image at ⊎ ((payloads : List (List ℕ)) × log.Recovers magic image payloads × IsMisformed payloads at)

-- why no book of this key opens on the image
abbrev pub Bars : Secret → List ℕ → BookFault → Type 0
Bars s image BadSet = IsOwnSet s → ⊥
Bars s image (Damaged at) = (is_founded image ≡ true) × IsBad image at
Bars s image (KeyMismatch file journal) = (is_founded image ≡ true) × (file ≡ lms_key s) × ((payloads : List (List ℕ)) × log.Recovers magic image payloads × IsOther file journal payloads)
Bars s image DiskFault = Unit {0}
Bars s image NoMemory = Unit {0}

-- the fault is a refusal: of the sets, of what stands on the disk, or of its key
abbrev pub IsRefusal : BookFault → Type 0
IsRefusal BadSet = Unit {0}
IsRefusal (Damaged at) = Unit {0}
IsRefusal (KeyMismatch file journal) = Unit {0}
IsRefusal DiskFault = ⊥
IsRefusal NoMemory = ⊥

-- an image from before, or one that isn't founded, or a book that has given no leaf
abbrev pub IsBegun : (List ℕ → Type 0) → Secret → List ℕ → Type 0
IsBegun before s image = before image ⊎ ((is_founded image ≡ false) ⊎ Recovers s [] image)
