-- the items that are left decide, and there are no more of them than octets
use Rattle.std.proofs.Common.{◌≡◌, length, refl, ap, ◌∙◌, arith}
use Rattle.der_base.specs.Row.{items_of, items_left}
use Rattle.asn_fields.proofs.RowLemmas.{row_front, items_fit}
use Rattle.asn_fields.proofs.rows.read_row.Goals as goal

pub loop-item-init : goal.loop-item-init
loop-item-init g c =
    let same : items_left c.into_iter-item-iterator.result ≡ items_of c.args.«content».now = ap items_left c.into_iter-item-iterator.ensures.into_iter_gives ∙ c.new-item-items.ensures in
    record {
      row = row_front g.T.Entry.reading c.args.tag c.args.«content».now (items_left c.into_iter-item-iterator.result) same;
      none = λ e. refl;
      counted = omega (arith, ap length same);
    }

pub overflow_add-count : goal.overflow_add-count
overflow_add-count g c = omega (arith, c.loop-item.invariant.counted, items_fit c.args.«content».now)
