-- the elements that are left decide
use Rattle.std.proofs.Common.{◌≡◌}
use Rattle.std.specs.List.{list_all}
use Rattle.der_base.specs.Row.{items_left}
use Rattle.asn_types.specs.Rows.{passes}
use Rattle.asn_parts.specs.Text.{is_text, are_texts}
use Rattle.asn_parts.proofs.texts.row_of_texts.Given as goal

abbrev pub invariant-loop-item : goal.invariant-loop-item
invariant-loop-item l = are_texts l.«content» ≡ list_all (passes is_text) (items_left l.item-iterator)
