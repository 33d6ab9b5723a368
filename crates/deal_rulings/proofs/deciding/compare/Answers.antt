-- certHash is compared where a Grant stands.
use Rattle.std.proofs.Common.{◌≡◌, sym}
use Rattle.deal_changes.specs.declared.change.Change.TheVariants.{Settled}
use Rattle.deal_table.specs.Table.{made, stamp_by}
use Rattle.deal_rulings.specs.Rulings.{sent_by}
use Rattle.deal_rulings.proofs.Grants.{compared_at, compared_nowhere}
use Rattle.deal_rulings.proofs.deciding.compare.Goals as goal

pub returns-in-Some : goal.returns-in-Some
returns-in-Some c =
    let v = c.args.m.now in
    let k = c.args.c.now in
    let s = sent_by k c.args.o.now in
    let next = made v s (Settled (stamp_by v s) c.args.accepted) in
    rw (compared_at s.to k.hash_ok v.history k.ask.tid c.in-Some.place next (sym c.in-Some.ensures)) c.compare_at.ensures

pub returns-in-None : goal.returns-in-None
returns-in-None c =
    let v = c.args.m.now in
    let k = c.args.c.now in
    let s = sent_by k c.args.o.now in
    let next = made v s (Settled (stamp_by v s) c.args.accepted) in
    rw (compared_nowhere s.to k.hash_ok v.history k.ask.tid next (sym c.in-None.ensures)) (c.refused.ensures c.args.o.now)
