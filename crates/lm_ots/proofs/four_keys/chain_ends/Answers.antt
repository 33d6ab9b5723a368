-- Each lane runs from its private value to its end.
use Rattle.std.proofs.Common.{ℕ, ◌+◌, ◌-◌, ◌^◌, ◌∙◌, ap}
use Rattle.sha2.specs.Sha256.{digest_bytes}
use Rattle.sha_lanes.specs.Lanes.{lane}
use Rattle.lm_ots.specs.Chains.{chain, chain_end, prefix}
use Rattle.lm_ots.proofs.four_keys.chain_ends.Goals as goal

pub returns : goal.returns
unfolding chain_end
returns g c = λ k low.
    let id = c.args.key.now.id in
    let q = c.args.q + k in
    let front = c.first_rounds-started.ensures k (prefix id q c.args.i) low (c.fronts-front.ensures k low) in
    c.value_octets.ensures k low ∙ c.run.ensures k q c.args.i id low front
    ∙ ap (λ (n : ℕ). chain id q c.args.i 0 n (digest_bytes (lane k c.secrets-starts.result) 8)) c.greatest.ensures.value
    ∙ ap (chain id q c.args.i 0 (2 ^ g.row.W - 1)) (c.secrets-starts.ensures k q c.args.i id low front)
