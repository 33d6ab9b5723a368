-- The nodes of the four leaves are leaves.
use Rattle.std.proofs.Common.{ℕ, List, arith}
use Rattle.lm_ots.specs.Chains.{ots_key}
use Rattle.lms_tree.proofs.NodeLemmas.{below_four, leaf_is}
use Rattle.lms_tree.proofs.nodes.leaves_at.Goals as goal

pub returns : goal.returns
returns g c =
    let keys : ℕ → List ℕ = ots_key (record { w = g.row.W; p = g.row.P; ls = g.row.LS }) c.args.key.now.seed c.args.key.now.id in
    let id = c.args.key.now.id in
    let h = g.row.H in
    let q = c.args.q in
    let leaves = c.leaves.ensures.value in
    let is = c.public_hashes_in-hashes.ensures in
    below_four _
    (leaf_is keys id h q 0 _ _ _ (is 0 (omega arith)) (omega arith) c.leaf_hash.ensures)
    (leaf_is keys id h q 1 _ _ _ (is 1 (omega arith)) (omega arith) c.leaf_hash-2.ensures)
    (leaf_is keys id h q 2 _ _ _ (is 2 (omega arith)) (omega arith) c.leaf_hash-3.ensures)
    (leaf_is keys id h q 3 _ _ _ (is 3 (omega arith)) (omega arith) c.leaf_hash-4.ensures)
