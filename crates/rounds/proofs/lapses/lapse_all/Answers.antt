use Rattle.std.proofs.Common.{◌≡◌, ◌∙◌, None, sym}
use Rattle.rounds.specs.Rounds.{lapse_round}
use Rattle.rounds.specs.Stays.{Stays}
use Rattle.rounds.proofs.StepLemmas.{all_more, all_over, lapse_shrinks, lapsed_alone, no_fault, stays_both}
use Rattle.rounds.proofs.lapses.lapse_all.Goals as goal

pub returns-in-Some-clause-round : goal.returns-in-Some-clause-round
returns-in-Some-clause-round g c =
    let K = g.K.Clerk in
    let before = c.loop-round.clerk in
    let after = c.lapse-lapsed.new.self in
    all_over (K.seen c.args.clerk.now) (K.seen before) (K.seen after) (K.mine c.args.clerk.now) (K.mine before) (K.mine after) c.args.now c.lapse-lapsed.result c.in-Some.round
    c.loop-round.invariant.so_far c.lapse-lapsed.ensures.ends c.lapse-lapsed.ensures.grown c.lapse-lapsed.ensures.mine (sym c.end_of.ensures ∙ c.in-Some.is)

pub loop-round-preserved : goal.loop-round-preserved
loop-round-preserved g c =
    let K = g.K.Clerk in
    let before = c.loop-round.clerk in
    let after = c.lapse-lapsed.new.self in
    let e = c.lapse-lapsed.ensures in
    let on : lapse_round c.lapse-lapsed.result ≡ None = sym c.end_of.ensures ∙ c.in_default.is in
    let stays : Stays K before after = record { grown = e.grown; lawful = λ _. e.lawful; loan = e.loan; disk = e.disk_loan; table = e.seat.0; share = e.seat.1; later = e.later; alone = λ none. lapsed_alone (K.seen before) (K.seen after) (K.doubt before) (K.doubt after) _ c.lapse-lapsed.result (K.mine before) (K.mine after) (e.alone none) e.mine } in
    record {
      so_far = all_more (K.seen c.args.clerk.now) (K.seen before) (K.seen after) (K.mine c.args.clerk.now) (K.mine before) (K.mine after) c.args.now c.lapse-lapsed.result c.loop-round.invariant.so_far e.ends e.mine on;
      stays = stays_both K c.args.clerk.now before after c.loop-round.invariant.stays stays;
      disk = e.exact (no_fault c.lapse-lapsed.result on) ∙ c.loop-round.invariant.disk;
    }

pub loop-round-smaller : goal.loop-round-smaller
loop-round-smaller g c = lapse_shrinks (g.K.Clerk.seen c.loop-round.clerk) (g.K.Clerk.seen c.lapse-lapsed.new.self) c.args.now c.lapse-lapsed.result c.lapse-lapsed.ensures.ends (sym c.end_of.ensures ∙ c.in_default.is)
