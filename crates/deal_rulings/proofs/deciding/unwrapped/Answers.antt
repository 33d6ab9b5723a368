-- The sender may not wrap, or may.
use Rattle.std.proofs.Common.{true}
use Rattle.deal_table.specs.Table.{guarded, wrap_rows}
use Rattle.deal_table.specs.Carry.{rest_outer}
use Rattle.deal_rulings.specs.Rulings.{subject}
use Rattle.deal_rulings.proofs.Outcomes.{refused_by, passed_by}
use Rattle.deal_rulings.proofs.deciding.unwrapped.Goals as goal

pub returns-in-Ok : goal.returns-in-Ok
returns-in-Ok c = λ kid.
    let k = c.args.c.now in
    let o = c.args.o.now in
    let m = rest_outer k (c.args.kind, kid) in
    passed_by (guarded true m o) (wrap_rows m o) (subject c.args.m.now k) c.subject.result (c.in-Ok.ensures (c.args.kind, kid)) c.subject.ensures

pub returns-in-Err : goal.returns-in-Err
returns-in-Err c = λ kid.
    let k = c.args.c.now in
    let o = c.args.o.now in
    let m = rest_outer k (c.args.kind, kid) in
    refused_by (guarded true m o) (wrap_rows m o) (subject c.args.m.now k) c.in-Err.fail c.refused_outer.result (c.in-Err.ensures (c.args.kind, kid)) (c.refused_outer.ensures kid o)
