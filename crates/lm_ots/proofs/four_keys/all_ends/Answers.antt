-- One chain's ends more are written.
use Rattle.std.proofs.Common.{◌≡◌, ℕ, List, [], ◌∙◌, ap, arith, inl, inr}
use Rattle.std.proofs.lemmas.Bool.{cases_lt}
use Rattle.std.proofs.lemmas.List.{get_or-set_same, get_or-set_other, length-replicate}
use Rattle.std.proofs.Math.ListN.{length-set}
use Rattle.lm_ots.specs.Runs.{value_in}
use Rattle.lm_ots.proofs.four_keys.all_ends.Goals as goal

pub loop-i-init : goal.loop-i-init
loop-i-init g c = record {
  size = length-replicate _ _;
  written = λ i k early low. absurd (omega arith);
}

pub loop-i-preserved : goal.loop-i-preserved
loop-i-preserved g c = record {
  size = length-set _ _ _ ∙ c.loop-i.invariant.size;
  written = λ i k early low.
      let old = c.loop-i.ends in
      let size = c.loop-i.invariant.size in
      elim (cases_lt i c.loop-i.i) [
        | inl before ↦ ap (λ (v : List (List ℕ)). value_in v k) (get_or-set_other old c.loop-i.i i c.chain_ends.result [] (omega arith))
            ∙ c.loop-i.invariant.written i k before low
        | inr here ↦
            let same : c.loop-i.i ≡ i = omega arith in
            rw (← same) (ap (λ (v : List (List ℕ)). value_in v k) (get_or-set_same old c.loop-i.i c.chain_ends.result [] (omega arith))
            ∙ c.chain_ends.ensures k low)
      ];
}

pub returns-clause-ends : goal.returns-clause-ends
returns-clause-ends g c = λ i k within low. c.loop-i.invariant.written i k (omega arith) low
