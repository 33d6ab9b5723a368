-- All are new where those that are left are.
use Rattle.std.proofs.Common.{length}
use Rattle.std.specs.Prelude.{◌↔◌}
use Rattle.deal_model.specs.Rules.{AreNew}
use Rattle.deal_rules.proofs.credentials.are_new.Given as goal

abbrev pub invariant-loop-rest : goal.invariant-loop-rest
invariant-loop-rest l = AreNew l.h l.list ↔ AreNew l.h l.rest

abbrev pub decreases-loop-rest : goal.decreases-loop-rest
decreases-loop-rest l = length l.rest
