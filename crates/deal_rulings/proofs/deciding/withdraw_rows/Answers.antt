-- Each group has its own outcome.
use Rattle.std.proofs.Common.{◌++◌}
use Rattle.std.specs.Prelude.{unwrap_or}
use Rattle.deal_table.specs.History.{name_of}
use Rattle.deal_table.specs.Table.{Event, state_now, new_rows, reason_rows, revoke_rows}
use Rattle.deal_table.specs.Carry.{rest_withdrawal}
use Rattle.deal_rulings.specs.Rulings.{sent_by}
use Rattle.deal_rulings.proofs.Outcomes.{joined}
use Rattle.deal_rulings.proofs.deciding.withdraw_rows.Goals as goal

pub returns : goal.returns
returns c =
    let v : Event = record { history = c.m.inside.history.now; time = c.m.inside.time; words = c.m.inside.words.now } in
    let s = sent_by c.args.c.now c.args.o.now in
    let name = name_of v.history in
    let reason = reason_rows name (rest_withdrawal name c.args.serial c.args.reason) in
    let revoke = revoke_rows v.history s.owner (unwrap_or c.args.serial 0) in
    rw (← c.m.view_is) (joined (new_rows (state_now v s)) (reason ++ revoke) _ _ _ c.and.ensures c.new_rows.ensures
    (joined reason revoke _ _ _ c.and-named.ensures (c.reason_rows.ensures name) c.revoke_rows.ensures))
