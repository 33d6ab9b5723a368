-- The changes so far are each allowed after those before them.
use Rattle.std.proofs.Common.{[], take}
use Rattle.deal_model.specs.Rules.{AllowedFrom}
use Rattle.deal_rules.proofs.allowed.is_legal.Given as goal

abbrev pub invariant-loop-i : goal.invariant-loop-i
invariant-loop-i l = AllowedFrom [] (take l.i l.h)
