-- The sizes so far were added.
use Rattle.std.proofs.Common.{◌≡◌, ◌+◌, take}
use Rattle.std.specs.List.{sum_by}
use Rattle.deal_model.specs.Rules.{size_of}
use Rattle.deal_rules.specs.Sizes.{capped}
use Rattle.deal_rules.proofs.sizes.log_size.Given as goal

abbrev pub invariant-loop-c : goal.invariant-loop-c
invariant-loop-c l = l.size ≡ capped (8 + sum_by size_of (take l.c-index l.h))
