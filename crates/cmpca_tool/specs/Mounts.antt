-- How a run ends whose disk is not mounted.
use Rattle.std.specs.Prelude.{ℕ, ◌≡◌, ◌⊎◌, Result, Err, List, ◌++◌, Option, IfSome, codes}
use Rattle.std.specs.Fmt.{decimal}
use Rattle.deal_model.specs.Views.{History}
use Rattle.desk_laws.specs.Answers.{Holds}
use Rattle.journal_core.specs.declared.fault.MountFault.{MountFault}
use Rattle.journal_core.specs.declared.fault.MountFault.TheVariants as mounts
use Rattle.cmpca_tool.specs.Lines.{line}
use Rattle.cmpca_tool.specs.declared.status.Status.{Status}
use Rattle.cmpca_tool.specs.declared.status.Status.TheVariants.{DiskFault, NoMemory, Damaged, NotFounded}

-- how a run ends whose disk is not mounted, and what it writes
abbrev pub fault_status : MountFault → Status
fault_status mounts.NotFounded = NotFounded
fault_status (mounts.Damaged at) = Damaged at
fault_status mounts.DiskFault = DiskFault
fault_status mounts.NoMemory = NoMemory

abbrev pub fault_line : MountFault → List ℕ
fault_line mounts.NotFounded = line (codes "not founded")
fault_line (mounts.Damaged at) = line (codes "damaged at " ++ decimal at)
fault_line mounts.DiskFault = line (codes "disk fault")
fault_line mounts.NoMemory = line (codes "no memory")

-- The reply to a fault of the mount; want of memory comes besides.
pub record IsFaultReply (fault : MountFault) (status : Status) (text : List ℕ) : Type 0 where
  pub told : MountFault
  pub is_told : (told ≡ fault) ⊎ (told ≡ mounts.NoMemory)
  pub ends : status ≡ fault_status told
  pub says : text ≡ fault_line told

-- this answer of a mount holds of the content, and no other does
pub record IsAnswer (f : List ℕ) (answer : Result History MountFault) : Type 0 where
  pub holds : Holds f answer
  pub sole : (other : Result History MountFault) → Holds f other → other ≡ answer

-- the content is why a disk is not mounted; a fault of the disk and want of memory say nothing of it
abbrev pub IsUnmounted : List ℕ → MountFault → Type 0
IsUnmounted f mounts.NotFounded = IsAnswer f (Err mounts.NotFounded)
IsUnmounted f (mounts.Damaged at) = IsAnswer f (Err (mounts.Damaged at))
IsUnmounted f mounts.DiskFault = Unit {0}
IsUnmounted f mounts.NoMemory = Unit {0}

-- The status and the text are those of a fault of the mount, which is that of the disk's content where it is told.
pub record TellsFault (content : Option (List ℕ)) (status : Status) (text : List ℕ) : Type 0 where
  pub fault : MountFault
  pub unmounted : IfSome content (λ f. IsUnmounted f fault)
  pub ends : status ≡ fault_status fault
  pub says : text ≡ fault_line fault
