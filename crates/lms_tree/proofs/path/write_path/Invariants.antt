-- The path that is left, behind what was written, is the whole path.
use Rattle.std.proofs.Common.{◌≡◌, ℕ, List, ◌+◌, ◌-◌, ◌*◌, ◌^◌, ◌++◌}
use Rattle.lms_tree.specs.Nodes.{AreNodes, path}
use Rattle.lms_tree.proofs.PathLemmas.{IsOnLevel}
use Rattle.lms_tree.proofs.path.write_path.Given as goal

abbrev pub invariant-loop-level : goal.invariant-loop-level
invariant-loop-level g l = record {
  level : IsOnLevel (g.row.H - l._level) l.r;
  written : (keys : ℕ → List ℕ) (id : List ℕ) → AreNodes keys id g.row.H 1 (2 * 2 ^ g.row.H) l.nodes
      → l.out ++ path keys id g.row.H (g.row.H - l._level) l.r ≡ l.fn.out ++ path keys id g.row.H g.row.H (2 ^ g.row.H + l.q);
}
