-- The ends are those of all chains.
use Rattle.std.proofs.Common.{ℕ, ap, ◌∙◌, arith}
use Rattle.lm_ots.specs.Chains.{chain_end, ends_hash, joined, ots_key}
use Rattle.lm_ots.proofs.key.public_hash_in.Goals as goal

pub returns : goal.returns
unfolding ots_key
returns g c =
    let f = chain_end (record { w = g.row.W; p = g.row.P; ls = g.row.LS }) c.args.key.now.seed c.args.key.now.id c.args.q in
    c.hash_of_ends.ensures f (λ i within. c.chain_ends_in.ensures.values i (omega arith))
    ∙ ap (λ (n : ℕ). ends_hash c.args.key.now.id c.args.q (joined f n)) c.chain_ends_in.ensures.size
