-- The first step makes the private values of the seed.
use Rattle.std.proofs.Common.{ℕ, List, ◌∷◌, ◌++◌, slice_index, ◌∙◌, ap}
use Rattle.sha2.specs.Sha256.{sha256}
use Rattle.lm_ots.specs.Chains.{prefix, step}
use Rattle.lm_ots.proofs.FourLemmas.{four_same}
use Rattle.lm_ots.proofs.four.four_secrets.Goals as goal

pub returns : goal.returns
unfolding step
returns c k low =
    let front = prefix c.args.id.now c.args.q (slice_index c.args.picks.now k) in
    c.value_octets.ensures k low ∙ c.digest_parts.ensures k front low (c.first_rounds-started.ensures k front low (c.fronts-front.ensures k low))
    ∙ ap (λ (x : List ℕ). sha256 (front ++ 255 ∷ x)) (c.value_words.ensures k low ∙ four_same c.args.seed.now k low)
