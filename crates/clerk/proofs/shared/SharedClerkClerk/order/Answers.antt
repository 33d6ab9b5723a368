use Rattle.std.proofs.Common.{◌≡◌, sym, ◌∙◌, ap, subst, arith}
use Rattle.deal_model.specs.Views.{History}
use Rattle.deal_table.specs.History.{Begins}
use Rattle.desk.specs.History.{history_of}
use Rattle.desk.specs.Due.{event_time}
use Rattle.desk.specs.Clerks.{IsOrderedSince}
use Rattle.desk.proofs.ClerkLemmas.{ordered_gains}
use Rattle.clerk.proofs.TurnLemmas.{begins_on, seen_lawful, still_lawful}
use Rattle.clerk.proofs.shared.SharedClerkClerk.order.Goals as goal

pub returns-clause-lawful : goal.returns-clause-lawful
returns-clause-lawful g c = seen_lawful c.leave.new.seat.me.0.seen (history_of c.keep_mark.new.desk) (ap (λ m. m.0.seen) c.leave.ensures.left) c.stands_for_its_disk.ensures.lawful

pub returns-clause-grown : goal.returns-clause-grown
returns-clause-grown g c =
    let seen = c.args.self.now.seat.me.0.seen in
    let desk = c.enter-desk.result in
    let after = c.order-end.new.self in
    let now_seen : c.leave.new.seat.me.0.seen ≡ (history_of after) = ap (λ m. m.0.seen) c.leave.ensures.left ∙ ap (λ h. h.items) c.keep_mark.ensures.history in
    let gains = ordered_gains 0 (history_of desk) desk.doubt c.args.order.now (event_time (history_of desk) c.args.now) c.order-end.result (history_of after) after.doubt (omega arith) c.order-end.ensures.ends in
    subst (λ (l : History). Begins seen l) (sym now_seen) (begins_on seen (history_of desk) (history_of after) c.enter-desk.ensures.later gains.begun)

pub returns-clause-ends : goal.returns-clause-ends
returns-clause-ends g c =
    let seen = c.args.self.now.seat.me.0.seen in
    let desk = c.enter-desk.result in
    let after = c.order-end.new.self in
    let kept = c.keep_mark.new.desk in
    let same : history_of kept ≡ history_of after = ap (λ h. h.items) c.keep_mark.ensures.history in
    let now_seen : c.leave.new.seat.me.0.seen ≡ history_of after = ap (λ m. m.0.seen) c.leave.ensures.left ∙ same in
    let lawful = still_lawful (history_of kept) (history_of after) kept.doubt after.doubt same c.keep_mark.ensures.doubt c.stands_for_its_disk.ensures.lawful in
    subst (λ (l : History). IsOrderedSince seen l c.args.order.now c.args.now c.order-end.result) (sym now_seen)
    (record { before = history_of desk; begun = c.enter-desk.ensures.later; doubt = desk.doubt; left = after.doubt; ordered = c.order-end.ensures.ends; lawful = lawful })
