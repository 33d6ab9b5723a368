-- the elements that are left decide
use Rattle.std.proofs.Common.{◌≡◌}
use Rattle.std.specs.List.{list_all}
use Rattle.der_base.specs.Row.{items_left}
use Rattle.asn_types.specs.Rows.{passes}
use Rattle.pki_parts.specs.Certificates.{any_part, are_elements}
use Rattle.pki_parts.proofs.certificates.are_elements.Given as goal

abbrev pub invariant-loop-item : goal.invariant-loop-item
invariant-loop-item l = are_elements l.«content» ≡ list_all (passes any_part) (items_left l.item-iterator)
