-- The nested message's time is near enough.
use Rattle.std.proofs.Common.{◌≡◌, true, Result, Ok}
use Rattle.deal_table.specs.History.{skew_of}
use Rattle.deal_table.specs.Table.{unless, guarded, time_rows, wrap_rows}
use Rattle.deal_table.specs.Carry.{rest_outer}
use Rattle.deal_rulings.specs.Rulings.{outcome, subject}
use Rattle.deal_rulings.proofs.Outcomes.{passed_by}
use Rattle.deal_rulings.proofs.deciding.wrapped_timely.Goals as goal

pub returns-in-Ok : goal.returns-in-Ok
returns-in-Ok c = λ kid.
    let v = c.args.m.now in
    let k = c.args.c.now in
    let o = c.args.o.now in
    let m = rest_outer k (c.args.kind, kid) in
    let rows = time_rows m (skew_of v.history) v.time in
    let e : Ok tt ≡ outcome rows = rw (← c.m.view_is) c.in-Ok.ensures in
    passed_by (guarded true m o) rows (unless (guarded true m o) (wrap_rows m o) (subject v k)) c.unwrapped.result e (c.unwrapped.ensures kid)
