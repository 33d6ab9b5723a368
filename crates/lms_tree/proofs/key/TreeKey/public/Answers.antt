-- The root is node 1 of the nodes.
use Rattle.std.proofs.Common.{subst}
use Rattle.lms_tree.specs.Keys.{IsPublicKey, Secret}
use Rattle.lms_tree.proofs.KeyLemmas.{public_of_grown}
use Rattle.lms_tree.proofs.key.TreeKey.public.Goals as goal

pub returns : goal.returns
returns c =
    subst (λ (s : Secret). IsPublicKey s c.public_octets.result) c.self.view_is
    (public_of_grown (record { seed = c.self.inside.key.seed; id = c.self.inside.key.id; tree = c.self.inside.tree; ots = c.self.inside.key.ots })
    c.self.inside.nodes.items c.index.result.now c.public_octets.result c.self.invariant c.index.ensures c.public_octets.ensures)
