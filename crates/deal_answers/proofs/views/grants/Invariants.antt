-- The changes so far were counted.
use Rattle.std.proofs.Common.{◌≡◌, ◌≤◌, take}
use Rattle.std.specs.List.{count_by}
use Rattle.deal_model.specs.Views.{is_grant}
use Rattle.deal_answers.proofs.views.grants.Given as goal

abbrev pub invariant-loop-c : goal.invariant-loop-c
invariant-loop-c l = (l.count ≡ count_by is_grant (take l.c-index l.h)) × (l.count ≤ l.c-index)
