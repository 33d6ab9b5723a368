-- Ends that are never told as done.
use Rattle.std.proofs.Common.{◌≡◌, ℕ, List, subst}
use Rattle.journal_core.specs.declared.fault.MountFault.{MountFault}
use Rattle.journal_core.specs.declared.fault.MountFault.TheVariants as mounts
use Rattle.registry.specs.declared.fault.RegFault.{RegFault}
use Rattle.registry.specs.declared.fault.RegFault.TheVariants as files
use Rattle.cmpca_tool.specs.Mounts.{fault_status}
use Rattle.cmpca_tool.specs.Deeds.{file_status, IsCutShort}
use Rattle.cmpca_tool.specs.declared.status.Status.{Status}
use Rattle.cmpca_tool.specs.declared.status.Status.TheVariants.{Done}

-- the disk isn't mounted
pub never_done : (f : MountFault) → fault_status f ≡ Done → ⊥
never_done mounts.NotFounded done = absurd cc
never_done (mounts.Damaged at) done = absurd cc
never_done mounts.DiskFault done = absurd cc
never_done mounts.NoMemory done = absurd cc

-- the file has a fault
pub file_undone : (f : RegFault) → file_status f ≡ Done → ⊥
file_undone files.BadToml done = absurd cc
file_undone files.BadCount done = absurd cc
file_undone (files.BadCredential index cause) done = absurd cc
file_undone (files.BadSetting key) done = absurd cc
file_undone files.NoMemory done = absurd cc

-- what is read fails, or memory runs out
pub short_undone : (Failed : Type 0) (status : Status) (text : List ℕ) → IsCutShort Failed status text → status ≡ Done → ⊥
short_undone Failed status text short done = subst (λ (s : Status). IsCutShort Failed s text) done short
