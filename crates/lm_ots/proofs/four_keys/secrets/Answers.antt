-- The first step makes the private values of the seed.
use Rattle.std.proofs.Common.{ℕ, List, ◌∷◌, ◌++◌, ◌∙◌, ap}
use Rattle.sha2.specs.Sha256.{sha256}
use Rattle.lm_ots.specs.Chains.{prefix, step}
use Rattle.lm_ots.proofs.FourLemmas.{four_same}
use Rattle.lm_ots.proofs.four_keys.secrets.Goals as goal

pub returns : goal.returns
unfolding step
returns c = λ k q i id low is.
    c.digest_parts.ensures k (prefix id q i) low is
    ∙ ap (λ (x : List ℕ). sha256 (prefix id q i ++ 255 ∷ x)) (c.value_words.ensures k low ∙ four_same c.args.seed.now k low)
