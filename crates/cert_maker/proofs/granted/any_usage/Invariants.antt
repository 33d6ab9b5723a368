-- the items that are left decide
use Rattle.std.proofs.Common.{◌≡◌}
use Rattle.std.specs.List.{list_any}
use Rattle.der_base.specs.Row.{items_of, items_left}
use Rattle.asn_types.specs.Rows.{passes}
use Rattle.cert_maker.specs.Plans.{is_usage}
use Rattle.cert_maker.proofs.granted.any_usage.Given as goal

abbrev pub invariant-loop-item : goal.invariant-loop-item
invariant-loop-item l = list_any (passes is_usage) (items_left l.item-iterator) ≡ list_any (passes is_usage) (items_of l.exts)
