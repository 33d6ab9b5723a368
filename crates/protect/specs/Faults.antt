-- What is told of a fault.
use Rattle.std.specs.Prelude.{ℕ, List, codes}
use Rattle.protect.specs.declared.fault.CheckFault.{CheckFault}
use Rattle.protect.specs.declared.fault.CheckFault.TheVariants as variant

abbrev pub fault_text : CheckFault → List ℕ
fault_text variant.BadAlg = codes "the algorithm is not the key's"
fault_text variant.NoMemory = codes "memory ran out"
