-- What is yielded is the first of the items, and what is left are the others.
use Rattle.std.proofs.Common.{◌<◌, length, ap, rules, arith}
use Rattle.der_base.proofs.RowLemmas.{items-read, items-fault_at, nothing_left}
use Rattle.der_base.proofs.items.ItemsIterator.next.Goals as goal

pub returns-then-is_empty-clause-steps : goal.returns-then-is_empty-clause-steps
returns-then-is_empty-clause-steps c = let none = nothing_left c.args.self.now.rest.now (search rules) in (none, none)

pub returns-in-Ok-clause-steps : goal.returns-in-Ok-clause-steps
returns-in-Ok-clause-steps c = items-read _ _ _ c.in-Ok.ensures.exact

pub returns-in-Ok-clause-goes : goal.returns-in-Ok-clause-goes
returns-in-Ok-clause-goes c =
    let e = items-read _ _ _ c.in-Ok.ensures.exact in
    record { on = λ _. (search rules, search rules, omega (arith, ap length e)); keeps = search rules; rests = search rules }

pub returns-in-Err-clause-steps : goal.returns-in-Err-clause-steps
returns-in-Err-clause-steps c = items-fault_at _ _ (search rules) c.in-Err.ensures.exact

pub returns-in-Err-clause-goes : goal.returns-in-Err-clause-goes
returns-in-Err-clause-goes c =
    let some : 0 < length c.args.self.now.rest.now = search rules in
    let e = items-fault_at c.args.self.now.rest.now c.in-Err.fault some c.in-Err.ensures.exact in
    record { on = λ _. (search rules, search rules, omega (arith, ap length e)); keeps = search rules; rests = search rules }
