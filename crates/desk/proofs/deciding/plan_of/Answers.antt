-- What the ruling says is what is left of the message.
use Rattle.std.proofs.Common.{◌≡◌, ℕ, Some, sym, ◌∙◌, ap, subst}
use Rattle.deal_table.specs.History.{receipt_at}
use Rattle.deal_table.specs.Table.{Repeats}
use Rattle.deal_table.specs.Carry.{left}
use Rattle.desk.proofs.RulingLemmas.{ruled_makes, ruled_repeats, ruled_refuses, ruled_asks}
use Rattle.desk.proofs.VerdictLemmas.{left_stamped, left_receipt}
use Rattle.desk.proofs.deciding.plan_of.Goals as goal

pub receipt_of_made-requires-clause-stamped : goal.receipt_of_made-requires-clause-stamped
receipt_of_made-requires-clause-stamped c =
    let e = ruled_makes (left c.args.h.now c.args.checked.now c.args.now c.args.words.now) c.in-Ok-Makes.change (sym c.in-Ok-Makes.field-0-is ∙ c.in-Ok-Makes.ensures) in
    left_stamped c.args.h.now c.args.checked.now c.args.now c.args.words.now c.in-Ok-Makes.change e

pub receipt_of_repeated-requires-clause-low : goal.receipt_of_repeated-requires-clause-low
receipt_of_repeated-requires-clause-low c =
    let e = ruled_repeats (left c.args.h.now c.args.checked.now c.args.now c.args.words.now) c.in-Ok-Repeats.place (sym c.in-Ok-Repeats.field-0-is ∙ c.in-Ok-Repeats.ensures) in
    (left_receipt c.args.h.now c.args.checked.now c.args.now c.args.words.now c.in-Ok-Repeats.place e).low

pub receipt_of_repeated-requires-clause-high : goal.receipt_of_repeated-requires-clause-high
receipt_of_repeated-requires-clause-high c =
    let e = ruled_repeats (left c.args.h.now c.args.checked.now c.args.now c.args.words.now) c.in-Ok-Repeats.place (sym c.in-Ok-Repeats.field-0-is ∙ c.in-Ok-Repeats.ensures) in
    (left_receipt c.args.h.now c.args.checked.now c.args.now c.args.words.now c.in-Ok-Repeats.place e).high

pub receipt_of_repeated-requires-clause-stands : goal.receipt_of_repeated-requires-clause-stands
receipt_of_repeated-requires-clause-stands c =
    let e = ruled_repeats (left c.args.h.now c.args.checked.now c.args.now c.args.words.now) c.in-Ok-Repeats.place (sym c.in-Ok-Repeats.field-0-is ∙ c.in-Ok-Repeats.ensures) in
    (left_receipt c.args.h.now c.args.checked.now c.args.now c.args.words.now c.in-Ok-Repeats.place e).stands

pub returns-in-Ok : goal.returns-in-Ok
returns-in-Ok c =
    let e = ruled_makes (left c.args.h.now c.args.checked.now c.args.now c.args.words.now) c.in-Ok-Makes.change (sym c.in-Ok-Makes.field-0-is ∙ c.in-Ok-Makes.ensures) in
    (e, c.in-Ok.ensures)

pub returns-in-Ok-receipt_of_repeated : goal.returns-in-Ok-receipt_of_repeated
returns-in-Ok-receipt_of_repeated c =
    let e = ruled_repeats (left c.args.h.now c.args.checked.now c.args.now c.args.words.now) c.in-Ok-Repeats.place (sym c.in-Ok-Repeats.field-0-is ∙ c.in-Ok-Repeats.ensures) in
    let receipt = c.in-Ok-receipt_of_repeated.receipt in
    let there = c.in-Ok-receipt_of_repeated.ensures in
    (e ∙ ap Repeats (sym there.1), subst (λ (n : ℕ). receipt_at c.args.h.now n ≡ Some receipt) (sym there.1) there.0)

pub returns-in-Ok-Refuses : goal.returns-in-Ok-Refuses
returns-in-Ok-Refuses c = ruled_refuses (left c.args.h.now c.args.checked.now c.args.now c.args.words.now) c.in-Ok-Refuses.fail c.in-Ok-Refuses.is_guarded c.in-Ok-Refuses.to_outer (sym c.in-Ok-Refuses.field-0-is ∙ c.in-Ok-Refuses.ensures)

pub returns-in-Ok-Asks : goal.returns-in-Ok-Asks
returns-in-Ok-Asks c = ruled_asks (left c.args.h.now c.args.checked.now c.args.now c.args.words.now) c.in-Ok-Asks.place (sym c.in-Ok-Asks.field-0-is ∙ c.in-Ok-Asks.ensures)
