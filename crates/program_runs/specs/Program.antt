-- What is known of a run of the program, with the visit that it is.
use Rattle.std.specs.Prelude.{ℕ, List, Option, IfSome}
use Rattle.cmp_ports.specs.declared.disk.Disk.{Ghosts}
use Rattle.one_history.specs.Visits.{Ending}
use Rattle.cmpca_tool.specs.Sources.{Devices}
use Rattle.cmpca_tool.specs.declared.status.Status.{Status}
use Rattle.cmpca_tool.specs.declared.words.Command.{Command}
use Rattle.program_runs.specs.Runs.{Ran, IsRun}

-- The run is about to write this reply; and where the disk tells what it holds, the run is a visit of the disk, whatever its ending.
abbrev pub IsVisitingRun : {D : Type 0} → Ghosts D → D → D → Devices → (ℕ → Type 0) → (Option (List ℕ) → Type 0) → Option Command → List ℕ → List ℕ → Status → List ℕ → Type 0
IsVisitingRun g old new devices IsReading IsDraw command input key status text =
    Ran g old new devices IsReading IsDraw command input key status text × IfSome (g.content old) (λ content. (ending : Ending) → IsRun g old new IsReading IsDraw command input key status text ending)
