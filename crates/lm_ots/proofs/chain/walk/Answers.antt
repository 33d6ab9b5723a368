-- A step of the code is the chain's next step.
use Rattle.std.proofs.Common.{ℕ, ◌+◌, ◌∷◌, ◌++◌, List, drop, sym, ◌∙◌, ap}
use Rattle.sha2.specs.Sha256.{sha256}
use Rattle.lm_ots.specs.Chains.{step, chain}
use Rattle.lm_ots.proofs.ChainLemmas.{chain-next, chain-done}
use Rattle.lm_ots.proofs.chain.walk.Goals as goal

pub loop-j-preserved : goal.loop-j-preserved
unfolding step
loop-j-preserved c = record {
  front = c.advance.ensures.front ∙ c.loop-j.invariant.front;
  value = λ id q i begins.
      let stepped = ap (λ (l : List ℕ). sha256 (l ++ c.loop-j.j ∷ drop 23 c.loop-j.message)) (c.loop-j.invariant.front ∙ begins) in
      ap (chain id q i (c.loop-j.j + 1) c.args.to) (c.advance.ensures.value ∙ stepped)
      ∙ sym (chain-next id q i c.loop-j.j c.args.to (drop 23 c.loop-j.message) c.loop-j-test.true)
      ∙ c.loop-j.invariant.value id q i begins;
}

pub returns-clause-value : goal.returns-clause-value
returns-clause-value c = λ id q i begins.
    sym (chain-done id q i c.loop-j.j c.args.to (drop 23 c.loop-j.message) c.loop-j-test.false)
    ∙ c.loop-j.invariant.value id q i begins
