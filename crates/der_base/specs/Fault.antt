-- The texts of the faults of reading, for an operator.
use Rattle.std.specs.Prelude.{ℕ, List, codes}
use Rattle.der_base.specs.declared.fault.DerFault.{DerFault}
use Rattle.der_base.specs.declared.fault.DerFault.TheVariants.{Short, BadTag, BadLength, Trailing}

abbrev pub fault_text : DerFault → List ℕ
fault_text Short = codes "the octets end before the element does"
fault_text BadTag = codes "the tag is another"
fault_text BadLength = codes "the length or the content is not in DER's form"
fault_text Trailing = codes "octets remain behind the element"
