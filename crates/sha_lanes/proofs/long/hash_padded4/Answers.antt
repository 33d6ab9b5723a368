use Rattle.std.proofs.Common.{◌≡◌, ℕ, List, [], slice_index_or, ◌∙◌, ap, arith}
use Rattle.sha2.specs.Sha256.{compress, digest_bytes, hash_after, initial_hash_256}
use Rattle.sha_lanes.specs.Lanes.{lane}
use Rattle.sha_lanes.proofs.LongLemmas.{hashed_none, hashed_more, hashed_whole}
use Rattle.sha_lanes.proofs.long.hash_padded4.Goals as goal

pub loop-t-init : goal.loop-t-init
loop-t-init g c = λ i low. hashed_none (slice_index_or c.args.padded.now i []) _ (c.initial_hash-state.ensures i low)

pub loop-t-preserved : goal.loop-t-preserved
loop-t-preserved g c = λ i low.
    hashed_more (slice_index_or c.args.padded.now i []) (lane i c.loop-t.state) _ c.loop-t.t (c.loop-t.invariant i low)
    (c.absorb-next.ensures i low ∙ ap (compress (lane i c.loop-t.state)) (c.blocks_at.ensures i low))

pub returns : goal.returns
returns g c = λ i m low long is.
    let done : c.loop-t.t ≡ c.args.count = omega arith in
    c.value_octets.ensures i low ∙ ap (λ (h : List ℕ). digest_bytes h 8) (c.loop-t.invariant i low)
    ∙ ap (λ (t : ℕ). digest_bytes (hash_after initial_hash_256 (slice_index_or c.args.padded.now i []) t) 8) done
    ∙ hashed_whole (slice_index_or c.args.padded.now i []) m c.args.count long is
