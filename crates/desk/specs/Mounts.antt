-- What mount says of a disk's content.
use Rattle.std.specs.Prelude.{◌≡◌, ◌⊎◌, ℕ, true, false, List, [], ◌∷◌, ◌++◌, Result, Ok, Err}
use Rattle.journal_core.specs.declared.fault.MountFault.{MountFault}
use Rattle.journal_core.specs.declared.fault.MountFault.TheVariants.{NotFounded, Damaged, DiskFault, NoMemory}
use Rattle.journal_core.specs.Log as log
use Rattle.journal_core.specs.Log.{is_founded, IsDamaged}
use Rattle.deal_changes.specs.declared.change.Change.{Change}
use Rattle.deal_changes.specs.Spelling.{spelling}
use Rattle.deal_model.specs.Views.{History}
use Rattle.deal_model.specs.Rules.{Allowed, AllowedFrom, Legal, log_size}
use Rattle.desk.specs.Images.{magic, spellings, Recovers}

-- the payload spells no change that may come next
abbrev pub IsStopped : History → List ℕ → Type 0
IsStopped h payload = (c : Change) → payload ≡ spelling c → Allowed h c → ⊥

-- behind this history the first of these payloads spells no change that may come next, or there is no payload at all
abbrev pub IsStuck : History → List (List ℕ) → Type 0
IsStuck h [] = h ≡ []
IsStuck h (payload ∷ more) = IsStopped h payload

-- The payloads begin with those of a history whose changes are each allowed after those before them. Its log ends at this
-- offset, and there it is stuck.
pub record IsUnlawful (payloads : List (List ℕ)) (at : ℕ) : Type 0 where
  pub history : History
  pub rest : List (List ℕ)
  pub parts : payloads ≡ spellings history ++ rest
  pub allowed : AllowedFrom [] history
  pub offset : at ≡ log_size history
  pub stuck : IsStuck history rest

-- the legal history that the payloads spell, or where they spell none
abbrev pub Replays : {X : Type 0} → (X → History) → List (List ℕ) → Result X MountFault → Type 0
Replays history payloads (Ok x) = Legal (history x) × (payloads ≡ spellings (history x))
Replays history payloads (Err NotFounded) = ⊥
Replays history payloads (Err (Damaged at)) = IsUnlawful payloads at
Replays history payloads (Err DiskFault) = ⊥
Replays history payloads (Err NoMemory) = Unit {0}

-- the image is founded, and recovers to this legal history
abbrev pub Stands : List ℕ → History → Type 0
Stands image h = (is_founded image ≡ true) × Recovers image h × Legal h

-- the log is damaged there, or it recovers to payloads that spell no legal history, from there on
abbrev pub IsBad : List ℕ → ℕ → Type 0
IsBad image at = IsDamaged magic image at ⊎ ((payloads : List (List ℕ)) × log.Recovers magic image payloads × IsUnlawful payloads at)

-- why the image holds no legal history
abbrev pub Refuses : List ℕ → MountFault → Type 0
Refuses image NotFounded = is_founded image ≡ false
Refuses image (Damaged at) = (is_founded image ≡ true) × IsBad image at
Refuses image DiskFault = Unit {0}
Refuses image NoMemory = Unit {0}
