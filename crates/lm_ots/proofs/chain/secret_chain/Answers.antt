-- The first step makes the private value of the seed.
use Rattle.std.proofs.Common.{ℕ, ◌∷◌, ◌++◌, List, ◌∙◌, ap, ap₂}
use Rattle.sha2.specs.Sha256.{sha256}
use Rattle.lm_ots.specs.Chains.{step, chain}
use Rattle.lm_ots.proofs.chain.secret_chain.Goals as goal

pub returns : goal.returns
unfolding step
returns c =
    let begins = c.advance.ensures.front ∙ c.step_message-message.ensures.front in
    let made = c.advance.ensures.value
    ∙ ap₂ (λ (a b : List ℕ). sha256 (a ++ 255 ∷ b)) c.step_message-message.ensures.front c.step_message-message.ensures.value in
    c.value_of.ensures ∙ c.walk.ensures.value c.args.id.now c.args.q c.args.i begins
    ∙ ap (chain c.args.id.now c.args.q c.args.i 0 c.args.to) made
