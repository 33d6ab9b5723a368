-- The four nodes are written one after the other.
use Rattle.std.proofs.Common.{arith}
use Rattle.lms_tree.proofs.NodeLemmas.{are_four_more}
use Rattle.lms_tree.proofs.nodes.write_four.Goals as goal

pub returns : goal.returns
returns c = λ keys id h first are four.
    are_four_more keys id h first c.args.r c.args.nodes.now _ _ _ _ c.requires
    (four 0 (omega arith)) (four 1 (omega arith)) (four 2 (omega arith)) (four 3 (omega arith)) are
