-- the elements that are left decide
use Rattle.std.proofs.Common.{◌≡◌}
use Rattle.std.specs.List.{list_all}
use Rattle.der_base.specs.Row.{items_of, items_left}
use Rattle.asn_types.specs.Rows.{passes}
use Rattle.req_forms.specs.Requests.{is_element}
use Rattle.req_forms.proofs.requests.are_elements.Given as goal

abbrev pub invariant-loop-item : goal.invariant-loop-item
invariant-loop-item l = list_all (passes is_element) (items_of l.octets) ≡ list_all (passes is_element) (items_left l.item-iterator)
