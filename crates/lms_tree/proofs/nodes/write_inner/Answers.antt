-- Each node is the hash of the two below it, which are written.
use Rattle.std.proofs.Common.{◌≡◌, ℕ, ◌+◌, ◌-◌, ◌*◌, ◌^◌, sym, ◌∙◌, ap₂, arith, subst}
use Rattle.std.proofs.Math.ListN.{length-set}
use Rattle.lms_tree.specs.Nodes.{AreNodes, inner_hash}
use Rattle.lms_tree.proofs.NodeLemmas.{node_inner, are_more_down}
use Rattle.lms_tree.proofs.nodes.write_inner.Goals as goal

pub loop-r-preserved : goal.loop-r-preserved
loop-r-preserved g c = record {
  count = length-set c.loop-r.nodes (c.loop-r.r - 1) c.inner_hash.result ∙ c.loop-r.invariant.count;
  some = omega arith;
  inner = omega arith;
  nodes = λ keys leaves.
      let grown = c.loop-r.invariant.nodes keys leaves in
      let low = c.loop-r-test.true in
      let high = c.loop-r.invariant.inner in
      let before : c.loop-r.r ≡ c.loop-r.r - 1 + 1 = omega arith in
      let left = grown.each (2 * (c.loop-r.r - 1)) (omega arith) (omega arith) in
      let right = grown.each (2 * (c.loop-r.r - 1) + 1) (omega arith) (omega arith) in
      let is = c.inner_hash.ensures ∙ ap₂ (inner_hash c.args.id.now (c.loop-r.r - 1)) left right
      ∙ sym (node_inner keys c.args.id.now g.row.H (c.loop-r.r - 1) (omega arith) (omega arith)) in
      are_more_down keys c.args.id.now g.row.H (c.loop-r.r - 1) (2 * 2 ^ g.row.H) c.loop-r.nodes c.inner_hash.result (omega arith) is
      (subst (λ (n : ℕ). AreNodes keys c.args.id.now g.row.H n (2 * 2 ^ g.row.H) c.loop-r.nodes) before grown);
}

pub shape_of-nodes : goal.shape_of-nodes
shape_of-nodes g c = c.loop-r.invariant.count ∙ sym c.requires

pub returns : goal.returns
returns g c = λ keys leaves.
    let some = c.loop-r.invariant.some in
    let last = c.loop-r-test.false in
    let root : c.loop-r.r ≡ 1 = omega arith in
    subst (λ (n : ℕ). AreNodes keys c.args.id.now g.row.H n (2 * 2 ^ g.row.H) c.loop-r.nodes) root (c.loop-r.invariant.nodes keys leaves)
