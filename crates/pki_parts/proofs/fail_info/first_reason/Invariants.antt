-- no reason below this bit is set
use Rattle.der_base.specs.Values.{bit_string_of}
use Rattle.pki_parts.proofs.FailLemmas.{AreFrom}
use Rattle.pki_parts.proofs.fail_info.first_reason.Given as goal

abbrev pub invariant-loop-bit : goal.invariant-loop-bit
invariant-loop-bit l = AreFrom (bit_string_of l.bits) l.bit
