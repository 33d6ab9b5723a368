use Rattle.std.proofs.Common.{◌≡◌, ◌+◌, List, [], ◌∷◌, ◌++◌, take, sym, ◌∙◌, ap, subst}
use Rattle.std.proofs.lemmas.List.{take_more}
use Rattle.deal_changes.specs.declared.change.Change.{Change}
use Rattle.desk.specs.Due.{IsFoundNext}
use Rattle.desk.proofs.DueLemmas.{next_step}
use Rattle.desk.proofs.due.next_due.Goals as goal

pub loop-c-preserved : goal.loop-c-preserved
loop-c-preserved c =
    let h = c.args.h.now in
    let i = c.loop-c.c-index in
    let grown : take (i + 1) h ≡ take i h ++ c.c-item.result ∷ [] = take_more h i c.c-item.result c.loop-c-test.true ∙ ap (λ (x : Change). take i h ++ x ∷ []) (sym c.c-item.is) in
    let step = next_step h (take i h) c.c-item.result c.loop-c.next c.waiting.result c.loop-c.invariant c.waiting.ensures in
    subst (λ (l : List Change). IsFoundNext h l c.sooner-next.result) (sym grown) (subst (λ x. IsFoundNext h (take i h ++ c.c-item.result ∷ []) x) (sym c.sooner-next.ensures) step)
