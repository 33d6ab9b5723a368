use Rattle.std.proofs.Common.{rules}
use Rattle.turnstile.proofs.Seats.{closes, closed_with}
use Rattle.turnstile.proofs.turnstile.Turnstile.close.Goals as goal

pub unwrap-value-requires : goal.unwrap-value-requires
unwrap-value-requires g c =
    let x = closes g.T.Chronicle.history g.T.Chronicle.kept c.args.self.table.shared.key.0 _ c.args.seat.id c.args.seat.me.0 _ _ c.take.result c.requires.rests.1 c.requires.all c.take.ensures.value c.close_with-closed.ensures.values.2 in
    let there = x.there in
    search rules

pub returns-clause-seen : goal.returns-clause-seen
returns-clause-seen g c = (closed_with _ _ _ _ _ c.unwrap-value.result (closes g.T.Chronicle.history g.T.Chronicle.kept c.args.self.table.shared.key.0 _ c.args.seat.id c.args.seat.me.0 _ _ c.take.result c.requires.rests.1 c.requires.all c.take.ensures.value c.close_with-closed.ensures.values.2) c.unwrap-value.ensures).0

pub returns-clause-mine : goal.returns-clause-mine
returns-clause-mine g c = (closed_with _ _ _ _ _ c.unwrap-value.result (closes g.T.Chronicle.history g.T.Chronicle.kept c.args.self.table.shared.key.0 _ c.args.seat.id c.args.seat.me.0 _ _ c.take.result c.requires.rests.1 c.requires.all c.take.ensures.value c.close_with-closed.ensures.values.2) c.unwrap-value.ensures).1

pub returns-clause-count : goal.returns-clause-count
returns-clause-count g c = (closed_with _ _ _ _ _ c.unwrap-value.result (closes g.T.Chronicle.history g.T.Chronicle.kept c.args.self.table.shared.key.0 _ c.args.seat.id c.args.seat.me.0 _ _ c.take.result c.requires.rests.1 c.requires.all c.take.ensures.value c.close_with-closed.ensures.values.2) c.unwrap-value.ensures).2

pub returns-clause-kept : goal.returns-clause-kept
returns-clause-kept g c = (closed_with _ _ _ _ _ c.unwrap-value.result (closes g.T.Chronicle.history g.T.Chronicle.kept c.args.self.table.shared.key.0 _ c.args.seat.id c.args.seat.me.0 _ _ c.take.result c.requires.rests.1 c.requires.all c.take.ensures.value c.close_with-closed.ensures.values.2) c.unwrap-value.ensures).3
