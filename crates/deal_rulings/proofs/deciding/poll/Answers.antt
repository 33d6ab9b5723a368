-- A row refuses the pollReq, or none does.
use Rattle.deal_table.specs.Table.{poll_made, state_now, deal_now}
use Rattle.deal_rulings.specs.Rulings.{sent_by, rest_polling, polled_rows}
use Rattle.deal_rulings.proofs.Outcomes.{refused_by, passed_by}
use Rattle.deal_rulings.proofs.deciding.poll.Goals as goal

pub returns-in-Ok : goal.returns-in-Ok
returns-in-Ok c =
    let v = c.args.m.now in
    let s = sent_by c.args.c.now c.args.o.now in
    let rows = polled_rows v s (rest_polling c.args.c.now c.args.ids_ok) in
    passed_by s.to rows (poll_made v s (state_now v s) (deal_now v s)) c.polled.result c.in-Ok.ensures c.polled.ensures

pub returns-in-Err : goal.returns-in-Err
returns-in-Err c =
    let v = c.args.m.now in
    let s = sent_by c.args.c.now c.args.o.now in
    let rows = polled_rows v s (rest_polling c.args.c.now c.args.ids_ok) in
    refused_by s.to rows (poll_made v s (state_now v s) (deal_now v s)) c.in-Err.fail c.refused.result c.in-Err.ensures (c.refused.ensures c.args.o.now)
