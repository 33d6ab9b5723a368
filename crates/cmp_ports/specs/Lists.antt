-- A clock, draws and orders in memory, as contracts see them.
use Rattle.std.specs.Prelude.{ℕ, List, Bool, Option, drop}
use Rattle.cmp_ports.specs.declared.order.Order.{Order}
use Rattle.cmp_ports.specs.declared.list_clock.ListClock.{ListClock}
use Rattle.cmp_ports.specs.declared.list_entropy.ListEntropy.{ListEntropy}
use Rattle.cmp_ports.specs.declared.list_orders.ListOrders.{ListOrders}
use Rattle.cmp_ports.specs.Schedule.{is_due, listed_of}
use Rattle.cmp_ports.specs.Coming.{reading, draw_of}

-- the readings to come
abbrev pub readings_of : ListClock → ℕ → ℕ
readings_of c = reading c.last (drop c.at c.times.items)

-- the draws to come
abbrev pub draws_of : ListEntropy → ℕ → Option (List ℕ)
draws_of e = draw_of (listed_of e.schedule) e.schedule.calls (drop e.at e.draws.items)

-- how many draws failed
abbrev pub draw_faults : ListEntropy → ℕ
draw_faults e = e.schedule.faults

-- they are owned
abbrev pub draw_loan : ListEntropy → ℕ
draw_loan e = 0

-- the orders that are left
abbrev pub orders_of : ListOrders → List Order
orders_of o = drop o.at o.orders.items

-- how many calls failed
abbrev pub order_faults : ListOrders → ℕ
order_faults o = o.schedule.faults

-- the next call is one that fails
abbrev pub is_order_due : ListOrders → Bool
is_order_due o = is_due o.schedule

-- the numbers of the calls that fail, counted from 1, and how many calls there were
abbrev pub order_listed : ListOrders → List ℕ
order_listed o = listed_of o.schedule

abbrev pub order_calls : ListOrders → ℕ
order_calls o = o.schedule.calls
