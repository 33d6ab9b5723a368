use Rattle.std.proofs.Common.{◌≡◌, sym, ◌∙◌, Some}
use Rattle.deal_table.specs.History.{receipt_at}
use Rattle.desk.proofs.StampLemmas.{receipt_place}
use Rattle.desk.proofs.deciding.receipt_of_repeated.Goals as goal

pub returns-in-Ok-Some : goal.returns-in-Ok-Some
returns-in-Ok-Some c =
    let there : receipt_at c.args.h.now c.args.place ≡ Some c.in-Ok-Some.receipt = sym c.in-Ok-Some.ensures ∙ c.in-Ok-Some.field-0-is in
    (there, receipt_place c.args.h.now c.args.place c.in-Ok-Some.receipt there)
