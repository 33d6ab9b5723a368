-- A row refuses the certConf, or none does.
use Rattle.deal_table.specs.Table.{settles}
use Rattle.deal_rulings.specs.Rulings.{sent_by, rest_confirmation, confirmed_rows}
use Rattle.deal_rulings.proofs.Outcomes.{refused_by, passed_by}
use Rattle.deal_rulings.proofs.deciding.confirm.Goals as goal

pub returns-in-Ok : goal.returns-in-Ok
returns-in-Ok c =
    let v = c.args.m.now in
    let s = sent_by c.args.c.now c.args.o.now in
    let f = rest_confirmation c.args.c.now c.args.s in
    passed_by s.to (confirmed_rows v s) (settles v s f) c.settle.result c.in-Ok.ensures c.settle.ensures

pub returns-in-Err : goal.returns-in-Err
returns-in-Err c =
    let v = c.args.m.now in
    let s = sent_by c.args.c.now c.args.o.now in
    let f = rest_confirmation c.args.c.now c.args.s in
    refused_by s.to (confirmed_rows v s) (settles v s f) c.in-Err.fail c.refused.result c.in-Err.ensures (c.refused.ensures c.args.o.now)
