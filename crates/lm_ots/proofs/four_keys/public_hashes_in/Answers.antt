-- The ends of each key are hashed in its lane.
use Rattle.std.proofs.Common.{◌≡◌, ℕ, ◌+◌, ◌*◌, ◌/◌, ◌<◌, ◌++◌, [], ◌∷◌, length, slice_index_or, subst, arith}
use Rattle.sha_lanes.proofs.LaneLemmas.{below_four}
use Rattle.lm_ots.specs.Chains.{chain_end, ends_hash, joined, ots_key, prefix}
use Rattle.lm_ots.specs.Runs.{BeginsPadded}
use Rattle.lm_ots.proofs.four_keys.public_hashes_in.Goals as goal

pub returns : goal.returns
unfolding ots_key ends_hash
returns g c = λ k low.
    let ends = λ (k : ℕ). chain_end (record { w = g.row.W; p = g.row.P; ls = g.row.LS }) c.args.key.now.seed c.args.key.now.id (c.args.q + k) in
    let size = c.all_ends-ends.ensures.size in
    let are = λ (k : ℕ) (low : k < 4) (i : ℕ) (within : i < length c.all_ends-ends.result). c.all_ends-ends.ensures.ends i k (omega arith) low in
    let messages = c.padded_ends.result ∷ c.padded_ends-2.result ∷ c.padded_ends-3.result ∷ c.padded_ends-4.result ∷ [] in
    let first : c.args.q ≡ c.args.q + 0 = omega arith in
    let padded = below_four (λ k. BeginsPadded (slice_index_or messages k []) (prefix c.args.key.now.id (c.args.q + k) 0x8080 ++ joined (ends k) (length c.all_ends-ends.result)) (64 * ((94 + 32 * length c.all_ends-ends.result) / 64)))
    (subst (λ (n : ℕ). BeginsPadded c.padded_ends.result (prefix c.args.key.now.id n 0x8080 ++ joined (ends 0) (length c.all_ends-ends.result)) (64 * ((94 + 32 * length c.all_ends-ends.result) / 64)))
    first (c.padded_ends.ensures (ends 0) (are 0 (omega arith))))
    (c.padded_ends-2.ensures (ends 1) (are 1 (omega arith)))
    (c.padded_ends-3.ensures (ends 2) (are 2 (omega arith)))
    (c.padded_ends-4.ensures (ends 3) (are 3 (omega arith))) in
    let p = rw (size, ← c.block_count.ensures) at (padded k low) in
    c.hash_padded4.ensures k _ low p.0 p.1
