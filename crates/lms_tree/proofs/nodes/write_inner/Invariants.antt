-- The nodes from r on are those of the tree, if its leaves were.
use Rattle.std.proofs.Common.{ℕ, List, ◌*◌, ◌^◌, ◌≤◌, length, ◌≡◌}
use Rattle.lms_tree.specs.Nodes.{AreNodes}
use Rattle.lms_tree.proofs.nodes.write_inner.Given as goal

abbrev pub invariant-loop-r : goal.invariant-loop-r
invariant-loop-r g l = record {
  count : length l.nodes ≡ 2 * 2 ^ g.row.H;
  some : 1 ≤ l.r;
  inner : l.r ≤ 2 ^ g.row.H;
  nodes : (keys : ℕ → List ℕ) → AreNodes keys l.id g.row.H (2 ^ g.row.H) (2 * 2 ^ g.row.H) l.fn.nodes
      → AreNodes keys l.id g.row.H l.r (2 * 2 ^ g.row.H) l.nodes;
}

abbrev pub decreases-loop-r : goal.decreases-loop-r
decreases-loop-r g l = l.r
