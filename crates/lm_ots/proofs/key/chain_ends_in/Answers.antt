-- Each chain runs from its private value to its end.
use Rattle.std.proofs.Common.{ℕ, List, ◌∙◌, arith}
use Rattle.std.proofs.lemmas.List.{get_or-replicate, length-replicate}
use Rattle.lm_ots.specs.Chains.{chain_end}
use Rattle.lm_ots.proofs.FourLemmas.{end_is}
use Rattle.lm_ots.proofs.key.chain_ends_in.Goals as goal

pub returns-clause-values : goal.returns-clause-values
unfolding chain_end
returns-clause-values g c = λ i within.
    end_is _ _ _ _ _ i _ _ _ _ (c.ends.ensures i (omega (arith, length-replicate {A = List ℕ})))
    (get_or-replicate g.row.P i 0 0 within) (get_or-replicate g.row.P i c.greatest.result 0 within ∙ c.greatest.ensures.value)
    (c.secrets.ensures i (omega (arith, length-replicate {A = List ℕ})))
