-- All are in form where those that are left are.
use Rattle.std.proofs.Common.{length}
use Rattle.std.specs.Prelude.{◌↔◌}
use Rattle.std.specs.List.{AllByRecursion}
use Rattle.deal_changes.specs.Spelling.{IsCredential}
use Rattle.deal_rules.proofs.forms.each_is_credential.Given as goal

abbrev pub invariant-loop-rest : goal.invariant-loop-rest
invariant-loop-rest l = AllByRecursion IsCredential l.list ↔ AllByRecursion IsCredential l.rest

abbrev pub decreases-loop-rest : goal.decreases-loop-rest
decreases-loop-rest l = length l.rest
