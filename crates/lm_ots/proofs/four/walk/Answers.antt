-- A lane that takes the step goes on, and the others stay.
use Rattle.std.proofs.Common.{◌≡◌, ℕ, ◌<◌, ◌≤◌, ◌∷◌, List, [], true, false, slice_index, slice_index_or, sym, ◌∙◌, ap, arith}
use Rattle.sha2.specs.Sha256.{digest_bytes}
use Rattle.sha_lanes.specs.Lanes.{lane}
use Rattle.sha_lanes.proofs.LaneLemmas.{below_four}
use Rattle.lm_ots.specs.Chains.{prefix, step}
use Rattle.lm_ots.proofs.FourLemmas.{pushed, walk_begins, walk_done, walk_step}
use Rattle.lm_ots.proofs.four.walk.Goals as goal

pub loop-j-init : goal.loop-j-init
loop-j-init c = λ k q i id low is.
    walk_begins id q i (slice_index c.args.from.now k) (slice_index c.args.to.now k) c.least-j.result _ (c.least-j.ensures k low)

pub loop-j-preserved : goal.loop-j-preserved
unfolding step
loop-j-preserved c = λ k q i id low is.
    let from = c.args.from.now in
    let to = c.args.to.now in
    let j = c.loop-j.j in
    let octets = λ (v : List ℕ). digest_bytes v 8 in
    let old = lane k c.loop-j.value in
    let new = lane k c.digest_parts-digest.result in
    let takers = c.takes.result ∷ c.takes-in-loop-j.result ∷ c.takes-in-loop-j-2.result ∷ c.takes-in-loop-j-3.result ∷ [] in
    let takes = slice_index_or takers k false in
    walk_step id q i (slice_index from k) (slice_index to k) j (octets old) (octets new) _ takes
    (below_four (λ k. slice_index from k ≤ j → j < slice_index to k → slice_index_or takers k false ≡ true)
    c.takes.ensures.between c.takes-in-loop-j.ensures.between c.takes-in-loop-j-2.ensures.between c.takes-in-loop-j-3.ensures.between k low)
    (below_four (λ k. j < slice_index from k → slice_index_or takers k false ≡ false)
    c.takes.ensures.before c.takes-in-loop-j.ensures.before c.takes-in-loop-j-2.ensures.before c.takes-in-loop-j-3.ensures.before k low)
    (below_four (λ k. slice_index to k ≤ j → slice_index_or takers k false ≡ false)
    c.takes.ensures.behind c.takes-in-loop-j.ensures.behind c.takes-in-loop-j-2.ensures.behind c.takes-in-loop-j-3.ensures.behind k low)
    (c.digest_parts-digest.ensures k (prefix id q i) low is)
    (ap octets (c.choose-next.ensures k low) ∙ pushed takes octets new old)
    ∙ c.loop-j.invariant k q i id low is

pub returns : goal.returns
returns c = λ k q i id low is.
    sym (walk_done id q i (slice_index c.args.from.now k) (slice_index c.args.to.now k) c.loop-j.j _
    (omega (arith, c.greatest-j-end.ensures k low)))
    ∙ c.loop-j.invariant k q i id low is
