-- The octets that are kept give the order of all.
use Rattle.std.proofs.Common.{List, ℕ, ap, subst, ◌∙◌, take}
use Rattle.cmp_ports.specs.Orders.{IsOrderLine}
use Rattle.cmp_ports.proofs.OrderLemmas.{order_of_front}
use Rattle.cmp_ports.proofs.file_orders.Line.order.Goals as goal

pub returns : goal.returns
returns c = record {
  order = λ line is. order_of_front line c.order_of_line.result
      (subst (λ (l : List ℕ). IsOrderLine l c.order_of_line.result) (ap (λ (n : ℕ). take n c.args.self.now.first) c.min.ensures ∙ is.kept) c.order_of_line.ensures);
}
