-- The numbers of the ends of a run, which are the statuses of the process.
use Rattle.std.specs.Prelude.{ℕ}
use Rattle.cmpca_tool.specs.declared.status.Status.{Status}
use Rattle.cmpca_tool.specs.declared.status.Status.TheVariants.{Done, Refused, Usage, ReadFault, WriteFault, DiskFault, NoMemory, Damaged, NotFounded, KeyMismatch, BadKeyFile}

abbrev pub number_of : Status → ℕ
number_of Done = 0
number_of Refused = 1
number_of Usage = 2
number_of ReadFault = 3
number_of WriteFault = 4
number_of DiskFault = 5
number_of NoMemory = 6
number_of (Damaged at) = 7
number_of NotFounded = 8
number_of (KeyMismatch file journal) = 9
number_of BadKeyFile = 10
