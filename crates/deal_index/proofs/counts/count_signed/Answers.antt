use Rattle.std.proofs.Common.{◌+◌, cond, ◌∙◌, ap}
use Rattle.deal_model.specs.Views.{has_leaf}
use Rattle.deal_index.proofs.CountLemmas.{counted}
use Rattle.deal_index.proofs.counts.count_signed.Goals as goal

pub returns : goal.returns
returns c = λ h e. c.one_more.ensures ∙ ap (λ b. c.args.count + cond b 1 0) c.has_leaf.ensures ∙ counted has_leaf h c.args.c.now c.args.count e
