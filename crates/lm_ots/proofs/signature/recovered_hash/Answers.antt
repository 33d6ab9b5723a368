-- The ends are those that the signature's chains lead to.
use Rattle.std.proofs.Common.{ℕ, List, ap, ◌∙◌, arith}
use Rattle.lm_ots.specs.Chains.{ends_hash, joined}
use Rattle.lm_ots.specs.Signatures.{candidate_of, recovered_end}
use Rattle.lm_ots.proofs.signature.recovered_hash.Goals as goal

pub returns : goal.returns
unfolding candidate_of
returns g c =
    let f = λ (o : List ℕ). recovered_end (record { w = g.row.W; p = g.row.P; ls = g.row.LS }) c.args.id.now c.args.q o c.args.sig.now in
    let octets = c.signed_octets_in-octets.result in
    c.hash_of_ends.ensures (f octets) (λ i within. c.recovered_ends_in.ensures.values i (omega arith))
    ∙ ap (λ (n : ℕ). ends_hash c.args.id.now c.args.q (joined (f octets) n)) c.recovered_ends_in.ensures.size
    ∙ ap (λ (o : List ℕ). ends_hash c.args.id.now c.args.q (joined (f o) g.row.P)) c.signed_octets_in-octets.ensures
