-- the names that are left decide
use Rattle.std.proofs.Common.{◌≡◌}
use Rattle.std.specs.List.{list_all}
use Rattle.der_base.specs.Row.{items_of, items_left}
use Rattle.asn_types.specs.General.{is_general}
use Rattle.asn_types.specs.Rows.{passes}
use Rattle.intake.proofs.extensions.are_generals.Given as goal

abbrev pub invariant-loop-item : goal.invariant-loop-item
invariant-loop-item l = list_all (passes is_general) (items_of l.«content») ≡ list_all (passes is_general) (items_left l.item-iterator)
