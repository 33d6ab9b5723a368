-- there are no more elements than octets
use Rattle.std.proofs.Common.{arith}
use Rattle.asn_fields.proofs.RowLemmas.{items_fit}
use Rattle.intake.proofs.about.item_count.Goals as goal

pub overflow_add-count : goal.overflow_add-count
overflow_add-count c = omega (arith, c.loop-item.invariant, items_fit c.args.«content».now)
