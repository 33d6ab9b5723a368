-- What a mount says of an image by its content.
use Rattle.std.specs.Prelude.{ℕ, List, Result, Ok, Err}
use Rattle.journal_core.specs.declared.fault.MountFault.{MountFault}
use Rattle.journal_core.specs.declared.fault.MountFault.TheVariants.{NotFounded, Damaged, DiskFault, NoMemory}
use Rattle.deal_model.specs.Views.{History}
use Rattle.desk.specs.Mounts.{Stands, Refuses}

-- The history stands in the image, or it isn't founded, or it is damaged there. A fault of the disk and want of memory say
-- nothing of it.
abbrev pub Holds : List ℕ → Result History MountFault → Type 0
Holds image (Ok h) = Stands image h
Holds image (Err NotFounded) = Refuses image NotFounded
Holds image (Err (Damaged at)) = Refuses image (Damaged at)
Holds image (Err DiskFault) = ⊥
Holds image (Err NoMemory) = ⊥
