-- the elements that are left decide
use Rattle.std.proofs.Common.{◌≡◌}
use Rattle.std.specs.List.{list_all}
use Rattle.der_base.specs.Row.{items_of, items_left}
use Rattle.asn_types.specs.Rows.{passes}
use Rattle.pki_message.specs.Body.{is_sequence_part}
use Rattle.pki_message.proofs.body.all_sequences.Given as goal

abbrev pub invariant-loop-item : goal.invariant-loop-item
invariant-loop-item l = list_all (passes is_sequence_part) (items_of l.«content») ≡ list_all (passes is_sequence_part) (items_left l.item-iterator)
