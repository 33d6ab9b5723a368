-- the elements that are left are counted
use Rattle.std.proofs.Common.{◌≡◌, ◌+◌, length}
use Rattle.der_base.specs.Row.{items_of, items_left}
use Rattle.intake.proofs.about.item_count.Given as goal

abbrev pub invariant-loop-item : goal.invariant-loop-item
invariant-loop-item l = l.count + length (items_left l._item-iterator) ≡ length (items_of l.«content»)
