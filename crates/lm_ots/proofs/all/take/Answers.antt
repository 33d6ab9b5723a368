-- Four chains run once the fourth is there.
use Rattle.std.proofs.Common.{◌≡◌, ℕ, ◌+◌, subst, arith, rules}
use Rattle.std.specs.Prelude.{slice_set}
use Rattle.lm_ots.specs.Runs.{SettledOrWaiting, end_of}
use Rattle.lm_ots.proofs.FourLemmas.{picked_more}
use Rattle.lm_ots.proofs.all.take.Goals as goal

pub returns-else-waiting-lt3-clause-settled : goal.returns-else-waiting-lt3-clause-settled
returns-else-waiting-lt3-clause-settled c = λ x before none.
    let f = end_of c.args.run.id.now c.args.run.q c.args.run.from.now c.args.run.to.now c.args.run.starts.now in
    let four : c.args.waiting.count + 1 ≡ 4 = omega arith in
    c.settle.ensures x (subst (λ (n : ℕ). SettledOrWaiting f c.args.values.now (slice_set c.args.waiting.picks c.args.waiting.count c.args.i) n x) four
    (picked_more f c.args.values.now c.args.waiting.picks c.args.waiting.count c.args.i x (search rules) c.requires.count before))
