-- the elements that are left decide
use Rattle.std.proofs.Common.{◌≡◌}
use Rattle.std.specs.List.{list_all}
use Rattle.der_base.specs.Row.{items_of, items_left}
use Rattle.asn_types.specs.Rows.{passes}
use Rattle.asn_types.specs.Name.{is_relative_name}
use Rattle.asn_types.proofs.name.are_relative_names.Given as goal

abbrev pub invariant-loop-item : goal.invariant-loop-item
invariant-loop-item l = list_all (passes is_relative_name) (items_of l.«content») ≡ list_all (passes is_relative_name) (items_left l.item-iterator)
