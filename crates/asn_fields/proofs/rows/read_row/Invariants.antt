-- the items that are left decide
use Rattle.std.proofs.Common.{◌≡◌, ◌+◌, length, None, option_map}
use Rattle.der_base.specs.Row.{items_of, items_left}
use Rattle.asn_fields.specs.Rows.{row_at, each_at, with_front}
use Rattle.asn_fields.proofs.rows.read_row.Given as goal

abbrev pub invariant-loop-item : goal.invariant-loop-item
invariant-loop-item g l = record {
  row : row_at g.T.Entry.reading l.tag l.«content» ≡ with_front l.count (option_map g.T.Entry.form_of l.first) (each_at g.T.Entry.reading l.tag (items_left l.item-iterator));
  none : l.count ≡ 0 → l.first ≡ None;
  counted : l.count + length (items_left l.item-iterator) ≡ length (items_of l.«content»);
}
