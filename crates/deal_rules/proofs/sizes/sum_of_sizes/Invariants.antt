-- The sizes so far were added.
use Rattle.std.proofs.Common.{◌≡◌, take}
use Rattle.std.specs.List.{sum_by}
use Rattle.deal_rules.specs.Sizes.{credential_size, capped}
use Rattle.deal_rules.proofs.sizes.sum_of_sizes.Given as goal

abbrev pub invariant-loop-c : goal.invariant-loop-c
invariant-loop-c l = l.size ≡ capped (sum_by credential_size (take l.c-index l.list))
