-- The leaves of the first g groups are written.
use Rattle.std.proofs.Common.{◌+◌, ◌*◌, ◌^◌}
use Rattle.lm_ots.specs.Chains.{ots_key}
use Rattle.lms_tree.specs.Nodes.{AreNodes}
use Rattle.lms_tree.proofs.nodes.write_leaves.Given as goal

abbrev pub invariant-loop-g : goal.invariant-loop-g
invariant-loop-g g l = AreNodes (ots_key (record { w = g.row.W; p = g.row.P; ls = g.row.LS }) l.key.seed l.key.id) l.key.id
    g.row.H (2 ^ g.row.H) (2 ^ g.row.H + 4 * l.g) l.nodes
