-- A row refuses the rr.
use Rattle.std.specs.Prelude.{unwrap_or}
use Rattle.deal_changes.specs.declared.change.Change.TheVariants.{Revoke}
use Rattle.deal_table.specs.History.{name_of}
use Rattle.deal_table.specs.Table.{made, stamp_by}
use Rattle.deal_table.specs.Carry.{rest_withdrawal}
use Rattle.deal_rulings.specs.Rulings.{sent_by, withdraw_rows}
use Rattle.deal_rulings.proofs.Outcomes.{refused_by}
use Rattle.deal_rulings.proofs.deciding.withdraw.Goals as goal

pub returns-in-Err : goal.returns-in-Err
returns-in-Err c =
    let v = c.args.m.now in
    let s = sent_by c.args.c.now c.args.o.now in
    let w = rest_withdrawal (name_of v.history) c.args.serial c.args.reason in
    let next = made v s (Revoke (stamp_by v s) (unwrap_or c.args.serial 0) c.args.reason) in
    refused_by s.to (withdraw_rows v s w) next c.in-Err.fail c.refused.result c.in-Err.ensures (c.refused.ensures c.args.o.now)
