-- Each group has its own outcome.
use Rattle.std.proofs.Common.{◌++◌}
use Rattle.deal_table.specs.History.{name_of}
use Rattle.deal_table.specs.Table.{Event, state_now, new_rows, wish_rows, key_rows, proof_rows, is_possessed}
use Rattle.deal_table.specs.Carry.{rest_enrolment}
use Rattle.deal_rulings.specs.Rulings.{sent_by}
use Rattle.deal_rulings.proofs.Outcomes.{joined}
use Rattle.deal_rulings.proofs.deciding.enrol_rows.Goals as goal

pub returns : goal.returns
returns c =
    let v : Event = record { history = c.m.inside.history.now; time = c.m.inside.time; words = c.m.inside.words.now } in
    let s = sent_by c.args.c.now c.args.o.now in
    let e = rest_enrolment c.args.body c.args.wish.now c.args.c.now.proven in
    let wish = wish_rows (name_of v.history) s.owner e in
    let key = key_rows v.history e in
    let proof = proof_rows (is_possessed s.owner e) in
    rw (← c.m.view_is) (joined (new_rows (state_now v s)) (wish ++ key ++ proof) _ _ _ c.and.ensures c.new_rows.ensures
    (joined wish (key ++ proof) _ _ _ c.and-wished.ensures (c.wish_rows.ensures (name_of v.history))
    (joined key proof _ _ _ c.and-key.ensures c.key_rows.ensures c.proof_rows.ensures)))
