-- Each chain runs from its digit's place to its end.
use Rattle.std.proofs.Common.{ℕ, List, ◌∙◌, arith}
use Rattle.std.proofs.lemmas.List.{get_or-replicate, length-replicate}
use Rattle.lm_ots.specs.Signatures.{recovered_end}
use Rattle.lm_ots.proofs.FourLemmas.{end_is}
use Rattle.lm_ots.proofs.signature.recovered_ends_in.Goals as goal

pub returns-clause-values : goal.returns-clause-values
unfolding recovered_end
returns-clause-values g c = λ i within.
    end_is _ _ _ _ _ i _ _ _ _ (c.ends.ensures i (omega (arith, length-replicate {A = List ℕ})))
    (c.digits_in-from.ensures.digits i within) (get_or-replicate g.row.P i c.greatest.result 0 within ∙ c.greatest.ensures.value)
    (c.values_in-starts.ensures.values i within)
