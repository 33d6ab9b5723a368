-- The nested message's sender is known.
use Rattle.std.proofs.Common.{◌≡◌, true, Option, Some, Result, Ok}
use Rattle.deal_model.specs.declared.states.Owner.{Owner}
use Rattle.deal_table.specs.History.{skew_of, standing_for}
use Rattle.deal_table.specs.Table.{Decision, unless, bare, guarded, time_rows, wrap_rows}
use Rattle.deal_table.specs.Carry.{rest_outer}
use Rattle.deal_rulings.specs.Rulings.{sender_in, subject}
use Rattle.deal_rulings.proofs.Outcomes.{known_by}
use Rattle.deal_rulings.proofs.deciding.wrapped.Goals as goal

pub returns-in-Ok : goal.returns-in-Ok
returns-in-Ok c =
    let v = c.args.m.now in
    let k = c.args.c.now in
    let kind = Some c.args.kind in
    let kid = c.args.kid.now in
    let m = rest_outer k (c.args.kind, kid) in
    let rest : Owner → Decision = λ o. unless (guarded true m o) (time_rows m (skew_of v.history) v.time) (unless (guarded true m o) (wrap_rows m o) (subject v k)) in
    let standing = standing_for v.history kind kid v.time in
    let e : Ok c.in-Ok.o ≡ sender_in kind standing = rw (← c.m.view_is) c.in-Ok.ensures in
    known_by (bare true) kind standing c.in-Ok.o rest c.wrapped_timely.result e (c.wrapped_timely.ensures kid)
