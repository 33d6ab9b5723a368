-- What found says of a disk's content.
use Rattle.std.specs.Prelude.{◌≡◌, ◌⊎◌, ℕ, true, false, List, [], ◌∷◌, Result, Ok, Err}
use Rattle.journal_core.specs.Log as log
use Rattle.journal_core.specs.Log.{is_founded}
use Rattle.deal_changes.specs.declared.change.Change.{Change}
use Rattle.deal_changes.specs.declared.change.Change.TheVariants.{Found}
use Rattle.deal_changes.specs.declared.change.Settings.{Settings}
use Rattle.desk.specs.declared.answers.FoundFault.{FoundFault}
use Rattle.desk.specs.declared.answers.FoundFault.TheVariants.{Already, DiskFault, NoMemory}
use Rattle.desk.specs.Images.{magic}

-- the change that founds a service with these settings at this time
abbrev pub founding : Settings → ℕ → Change
founding s time = Found (record s { time = time })

-- Already exactly where the disk is founded
abbrev pub IsPrepared : {T : Type 0} → List ℕ → Result T FoundFault → Type 0
IsPrepared image (Ok _) = is_founded image ≡ false
IsPrepared image (Err Already) = is_founded image ≡ true
IsPrepared image (Err DiskFault) = Unit {0}
IsPrepared image (Err NoMemory) = Unit {0}

-- an image from before, or one that isn't founded, or one that recovers to this one payload
abbrev pub IsBegun : (List ℕ → Type 0) → List ℕ → List ℕ → Type 0
IsBegun before first image = before image ⊎ ((is_founded image ≡ false) ⊎ log.Recovers magic image (first ∷ []))
