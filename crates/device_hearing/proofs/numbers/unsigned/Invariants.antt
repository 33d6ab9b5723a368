-- the octets that are left are put behind the number
use Rattle.std.proofs.Common.{◌≡◌, drop}
use Rattle.der_base.specs.Reading.{big_endian}
use Rattle.intake.specs.Told.{shifted}
use Rattle.device_hearing.proofs.numbers.unsigned.Given as goal

abbrev pub invariant-loop-b : goal.invariant-loop-b
invariant-loop-b l = big_endian l.octets ≡ shifted l.n (drop l.b-index l.octets)
