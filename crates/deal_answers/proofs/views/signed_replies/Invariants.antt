-- The changes so far were counted.
use Rattle.std.proofs.Common.{◌≡◌, ◌≤◌, take}
use Rattle.std.specs.List.{count_by}
use Rattle.deal_model.specs.Views.{has_leaf}
use Rattle.deal_answers.proofs.views.signed_replies.Given as goal

abbrev pub invariant-loop-c : goal.invariant-loop-c
invariant-loop-c l = (l.count ≡ count_by has_leaf (take l.c-index l.h)) × (l.count ≤ l.c-index)
