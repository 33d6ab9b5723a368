-- Each lane takes the next step, up to the last.
use Rattle.std.proofs.Common.{◌≡◌, ◌+◌, refl, sym, ◌∙◌, ap, arith}
use Rattle.sha2.specs.Sha256.{digest_bytes}
use Rattle.sha_lanes.specs.Lanes.{lane}
use Rattle.lm_ots.specs.Chains.{chain, prefix, step}
use Rattle.lm_ots.proofs.ChainLemmas.{chain-next, chain-done}
use Rattle.lm_ots.proofs.four_keys.run.Goals as goal

pub loop-j-init : goal.loop-j-init
loop-j-init c = λ k q i id low is. refl

pub loop-j-preserved : goal.loop-j-preserved
unfolding step
loop-j-preserved c = λ k q i id low is.
    let j = c.loop-j.j in
    let old = digest_bytes (lane k c.loop-j.value) 8 in
    let stepped : digest_bytes (lane k c.digest_parts-next.result) 8 ≡ step id q i j old = c.digest_parts-next.ensures k (prefix id q i) low is in
    ap (chain id q i (j + 1) c.args.to) stepped ∙ sym (chain-next id q i j c.args.to old (omega arith)) ∙ c.loop-j.invariant k q i id low is

pub returns : goal.returns
returns c = λ k q i id low is.
    sym (chain-done id q i c.loop-j.j c.args.to _ (omega arith)) ∙ c.loop-j.invariant k q i id low is
