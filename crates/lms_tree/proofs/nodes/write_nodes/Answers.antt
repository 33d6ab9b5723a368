-- The inner nodes stand on the leaves.
use Rattle.lm_ots.specs.Chains.{ots_key}
use Rattle.lms_tree.proofs.nodes.write_nodes.Goals as goal

pub returns : goal.returns
returns g c =
    c.write_inner.ensures (ots_key (record { w = g.row.W; p = g.row.P; ls = g.row.LS }) c.args.key.now.seed c.args.key.now.id) c.write_leaves.ensures
