-- A row refuses the request.
use Rattle.std.proofs.Common.{◌≡◌}
use Rattle.deal_table.specs.Table.{made, enrolled}
use Rattle.deal_table.specs.Carry.{rest_enrolment}
use Rattle.deal_rulings.specs.Rulings.{sent_by, enrol_rows}
use Rattle.deal_rulings.proofs.Outcomes.{refused_by}
use Rattle.deal_rulings.proofs.deciding.enrol.Goals as goal

pub returns-in-Err : goal.returns-in-Err
returns-in-Err c =
    let v = c.args.m.now in
    let s = sent_by c.args.c.now c.args.o.now in
    let e = rest_enrolment c.args.body c.args.wish.now c.args.c.now.proven in
    refused_by s.to (enrol_rows v s e) (made v s (enrolled v s e)) c.in-Err.fail c.refused.result c.in-Err.ensures (c.refused.ensures c.args.o.now)
