-- A key of no octets, as before a founding, has no leaves.
use Rattle.std.proofs.Common.{◌≡◌, [], refl}
use Rattle.deal_model.specs.Keys.{tree_of, leaves_of}

pub no_leaves : 0 ≡ leaves_of []
unfolding leaves_of tree_of
no_leaves = refl
