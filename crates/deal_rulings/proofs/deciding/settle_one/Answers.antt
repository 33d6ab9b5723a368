-- A row refuses the certConf, or none does.
use Rattle.std.proofs.Common.{◌≡◌, Result, Ok, Err}
use Rattle.std.specs.Prelude.{nat_lt}
use Rattle.deal_changes.specs.declared.change.Change.TheVariants.{Settled}
use Rattle.deal_table.specs.History.{grant_receipt}
use Rattle.deal_table.specs.Table.{deal_now, status_rows, compared_with, made, stamp_by}
use Rattle.deal_rulings.specs.Rulings.{outcome, sent_by, rest_confirmation}
use Rattle.deal_rulings.proofs.Outcomes.{refused_by, passed_by}
use Rattle.deal_rulings.proofs.deciding.settle_one.Goals as goal

pub returns-in-Ok : goal.returns-in-Ok
returns-in-Ok c =
    let v = c.args.m.now in
    let k = c.args.c.now in
    let s = sent_by k c.args.o.now in
    let rows = status_rows (deal_now v s) (rest_confirmation k c.args.s) in
    let next = compared_with s.to (λ g. k.hash_ok) (grant_receipt v.history k.ask.tid) (made v s (Settled (stamp_by v s) (nat_lt c.args.s.status 2))) in
    let e : Ok tt ≡ outcome rows = rw (← c.m.view_is) c.in-Ok.ensures in
    passed_by s.to rows next c.compare.result e c.compare.ensures

pub returns-in-Err : goal.returns-in-Err
returns-in-Err c =
    let v = c.args.m.now in
    let k = c.args.c.now in
    let s = sent_by k c.args.o.now in
    let rows = status_rows (deal_now v s) (rest_confirmation k c.args.s) in
    let next = compared_with s.to (λ g. k.hash_ok) (grant_receipt v.history k.ask.tid) (made v s (Settled (stamp_by v s) (nat_lt c.args.s.status 2))) in
    let e : Err c.in-Err.fail ≡ outcome rows = rw (← c.m.view_is) c.in-Err.ensures in
    refused_by s.to rows next c.in-Err.fail c.refused.result e (c.refused.ensures c.args.o.now)
