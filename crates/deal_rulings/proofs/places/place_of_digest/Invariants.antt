-- The place is looked for in what is left.
use Rattle.std.proofs.Common.{◌≡◌, ◌+◌, length}
use Rattle.std.specs.List.{position_from}
use Rattle.deal_model.specs.Views.{has_digest}
use Rattle.deal_rulings.proofs.places.place_of_digest.Given as goal

abbrev pub invariant-loop-rest : goal.invariant-loop-rest
invariant-loop-rest l = (position_from (has_digest l.digest) 1 l.h ≡ position_from (has_digest l.digest) l.place l.rest) × (l.place + length l.rest ≡ 1 + length l.h)

abbrev pub decreases-loop-rest : goal.decreases-loop-rest
decreases-loop-rest l = length l.rest
