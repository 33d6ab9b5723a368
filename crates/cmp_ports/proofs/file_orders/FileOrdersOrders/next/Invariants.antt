use Rattle.std.proofs.Common.{◌≡◌, ◌-◌}
use Rattle.cmp_ports.proofs.file_orders.FileOrdersOrders.next.Given as goal

-- the line grows without a fault
abbrev pub invariant-loop-self : goal.invariant-loop-self
invariant-loop-self g l = l.self.source.tally.count ≡ l.initial.self.source.tally.count

abbrev pub decreases-loop-self : goal.decreases-loop-self
decreases-loop-self g l = 65537 - l.self.line.len
