-- Each group has its own outcome.
use Rattle.std.proofs.Common.{◌++◌}
use Rattle.deal_table.specs.Table.{Event, tid_of, state_now, old_rows, party_rows, confirm_rows, deal_certificate}
use Rattle.deal_rulings.specs.Rulings.{sent_by}
use Rattle.deal_rulings.proofs.Outcomes.{joined}
use Rattle.deal_rulings.proofs.deciding.confirmed_rows.Goals as goal

pub returns : goal.returns
returns c =
    let v : Event = record { history = c.m.inside.history.now; time = c.m.inside.time; words = c.m.inside.words.now } in
    let s = sent_by c.args.c.now c.args.o.now in
    let party = party_rows v.history s.header s.owner.who in
    let certificate = confirm_rows (deal_certificate v.history (tid_of s.header)) v.time in
    rw (← c.m.view_is) (joined (old_rows (state_now v s)) (party ++ certificate) _ _ _ c.and.ensures c.old_rows.ensures
    (joined party certificate _ _ _ c.and-party.ensures c.party_rows.ensures c.confirm_rows.ensures))
