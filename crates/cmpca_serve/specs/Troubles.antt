-- What a run writes and how it ends where something failed while others were served, or in the last round.
use Rattle.std.specs.Prelude.{◌≡◌, ℕ, List, codes}
use Rattle.cmpca_tool.specs.Lines.{line}
use Rattle.cmpca_tool.specs.declared.status.Status.{Status}
use Rattle.cmpca_tool.specs.declared.status.Status.TheVariants.{ReadFault, DiskFault, NoMemory}
use Rattle.rounds.specs.declared.round.Stop.{Stop}
use Rattle.rounds.specs.declared.round.Stop.TheVariants as stops
use Rattle.cmpca_serve.specs.declared.trouble.Trouble.{Trouble}
use Rattle.cmpca_serve.specs.declared.trouble.Trouble.TheVariants.{Disk, Read, Memory}

abbrev pub trouble_status : Trouble → Status
trouble_status Disk = DiskFault
trouble_status Read = ReadFault
trouble_status Memory = NoMemory

abbrev pub trouble_line : Trouble → List ℕ
trouble_line Disk = line (codes "disk fault")
trouble_line Read = line (codes "read fault")
trouble_line Memory = line (codes "no memory")

-- a round that stopped so stopped by this trouble
abbrev pub IsOfStop : Stop → Trouble → Type 0
IsOfStop stops.DiskFault trouble = trouble ≡ Disk
IsOfStop stops.ReadFault trouble = trouble ≡ Read
IsOfStop stops.NoMemory trouble = trouble ≡ Memory
