-- Each group has its own outcome.
use Rattle.std.proofs.Common.{◌++◌}
use Rattle.deal_model.specs.Views.{is_told}
use Rattle.deal_table.specs.Table.{Event, tid_of, state_now, deal_now, old_rows, party_rows, poll_rows, entry_rows}
use Rattle.deal_rulings.specs.Rulings.{sent_by, rest_polling}
use Rattle.deal_rulings.proofs.Outcomes.{joined}
use Rattle.deal_rulings.proofs.deciding.polled_rows.Goals as goal

pub returns : goal.returns
returns c =
    let v : Event = record { history = c.m.inside.history.now; time = c.m.inside.time; words = c.m.inside.words.now } in
    let s = sent_by c.args.c.now c.args.o.now in
    let party = party_rows v.history s.header s.owner.who in
    let waiting = poll_rows (state_now v s) (is_told v.history (tid_of s.header)) in
    let entry = entry_rows (deal_now v s) (rest_polling c.args.c.now c.args.ids_ok) in
    rw (← c.m.view_is) (joined (old_rows (state_now v s)) (party ++ waiting ++ entry) _ _ _ c.and.ensures c.old_rows.ensures
    (joined party (waiting ++ entry) _ _ _ c.and-party.ensures c.party_rows.ensures
    (joined waiting entry _ _ _ c.and-waiting.ensures c.poll_rows.ensures c.entry_rows.ensures)))
