-- What prepare and mount say of a disk's content.
use Rattle.std.specs.Prelude.{◌≡◌, ℕ, true, false, List, ◌∷◌, length, drop, nat_le, if◌then◌else◌, Result, Ok, Err}
use Rattle.journal_core.specs.declared.fault.PrepareFault.{PrepareFault}
use Rattle.journal_core.specs.declared.fault.PrepareFault.TheVariants as prepare
use Rattle.journal_core.specs.declared.fault.MountFault.{MountFault}
use Rattle.journal_core.specs.declared.fault.MountFault.TheVariants.{NotFounded, Damaged, DiskFault, NoMemory}
use Rattle.journal_core.specs.Log.{Recovers, is_founded, IsDamaged}

-- Already exactly where the disk is founded
abbrev pub IsPrepared : {T : Type 0} → List ℕ → Result T PrepareFault → Type 0
IsPrepared image (Ok _) = is_founded image ≡ false
IsPrepared image (Err prepare.Already) = is_founded image ≡ true
IsPrepared image (Err prepare.DiskFault) = Unit {0}

-- what prepare makes of a content that isn't founded: where it has under nine octets its first is 0, and the others stay
abbrev pub prepared : List ℕ → List ℕ
prepared image = if nat_le 9 (length image) then image else 0 ∷ drop 1 image

-- the payloads that the image recovers to, or why there are none
abbrev pub Reads : {X : Type 0} → (X → List (List ℕ)) → List ℕ → List ℕ → Result X MountFault → Type 0
Reads payloads magic image (Ok x) = (is_founded image ≡ true) × Recovers magic image (payloads x)
Reads payloads magic image (Err NotFounded) = is_founded image ≡ false
Reads payloads magic image (Err (Damaged at)) = (is_founded image ≡ true) × IsDamaged magic image at
Reads payloads magic image (Err DiskFault) = Unit {0}
Reads payloads magic image (Err NoMemory) = Unit {0}
