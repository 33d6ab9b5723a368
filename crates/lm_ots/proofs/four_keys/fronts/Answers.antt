use Rattle.std.proofs.Common.{◌≡◌, ℕ, ◌+◌, arith, subst}
use Rattle.sha_lanes.specs.Blocks.{IsFrontOf}
use Rattle.sha_lanes.specs.Lanes.{lane}
use Rattle.sha_lanes.proofs.LaneLemmas.{below_four}
use Rattle.lm_ots.specs.Chains.{prefix}
use Rattle.lm_ots.proofs.four_keys.fronts.Goals as goal

pub returns : goal.returns
returns c =
    let first : c.args.q ≡ c.args.q + 0 = omega arith in
    below_four _
    (subst (λ (n : ℕ). IsFrontOf (prefix c.args.id.now n c.args.i) (lane 0 c.front_words.result)) first (rw c.front_of.ensures at (c.front_words.ensures 0 (omega arith))))
    (rw c.front_of-2.ensures at (c.front_words.ensures 1 (omega arith)))
    (rw c.front_of-3.ensures at (c.front_words.ensures 2 (omega arith)))
    (rw c.front_of-4.ensures at (c.front_words.ensures 3 (omega arith)))
