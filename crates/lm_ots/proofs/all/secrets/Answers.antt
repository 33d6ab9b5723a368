-- A group writes its values.
use Rattle.std.proofs.Common.{arith}
use Rattle.lm_ots.specs.Chains.{secret}
use Rattle.lm_ots.proofs.FourLemmas.{group_more}
use Rattle.lm_ots.proofs.all.secrets.Goals as goal

pub loop-g-preserved : goal.loop-g-preserved
loop-g-preserved c =
    let f = secret c.args.seed.now c.args.id.now c.args.q in
    group_more f _ _ _ c.loop-g.g _ (λ y. c.store.ensures f y c.four_secrets-four.ensures) c.picks_of-picks.ensures.places c.loop-g.invariant

pub returns : goal.returns
returns c = λ i within. c.loop-g.invariant i (omega arith) (omega arith)
