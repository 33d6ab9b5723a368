-- The front answers over a clerk that has its desk to itself, and what was lent is back.
use Rattle.std.proofs.Common.{rules, refl, sym, ap, ◌∙◌}
use Rattle.cmpca_tool.proofs.AnswerLemmas.{answering, fell_disk, fell_entropy, answers_always, moved, rose_disk, rose_moved, same_loan, held_loan, held_disk}
use Rattle.cmpca_tool.specs.Takings.{taken_status}
use Rattle.front.specs.Fronts.{replier_by}
use Rattle.cmpca_tool.proofs.take.answer_on.Goals as goal

pub returns-clause-answering : goal.returns-clause-answering
returns-clause-answering g c =
    let a = c.answer-answered.ensures.answered in
    let loan = held_loan _ _ a.goes.held in
    let r = answering _ _ _ _ _ _ _ _ refl (search (rules, c.new-front.ensures.clerk, c.new-clerk.ensures.desk, c.requires.clear)) a in
    let n = c.answer-answered.new.self in
    let f = c.new-front.result in
    moved g.F.Disk g.C.Clock.readings g.E.Entropy.draws (replier_by f.keys.now) _ c.as_slice.result.now _
    f.clerk.desk.now c.args.desk.now n.clerk.desk.now _ _ _ f.clock.now c.args.clock.now n.clock.now _ f.entropy.now c.args.entropy.now n.entropy.now _
    c.answer-answered.result n.failed c.failed-failed.result c.answer-answered.new.reply
    (ap replier_by c.new-front.ensures.keys)
    c.as_slice.ensures.value
    (search (rules, c.new-front.ensures.clerk, c.new-clerk.ensures.desk))
    (search (rules, loan, c.new-front.ensures.clerk, c.new-clerk.ensures.loan, c.into_parts-clerk.ensures.clerk, c.into_desk-desk.ensures.now, c.into_desk-desk.ensures.loan))
    (search (rules, loan, c.new-front.ensures.clerk, c.new-clerk.ensures.loan, c.into_parts-clerk.ensures.clerk, c.into_desk-desk.ensures.now, c.into_desk-desk.ensures.loan))
    (search (rules, loan, c.new-front.ensures.clerk, c.new-clerk.ensures.loan, c.into_parts-clerk.ensures.clerk, c.into_desk-desk.ensures.now, c.into_desk-desk.ensures.loan))
    (search (rules, c.new-front.ensures.clock))
    (search (rules, a.clock, c.new-front.ensures.clock, c.into_parts-clerk.ensures.clock))
    (search (rules, c.new-front.ensures.entropy))
    (search (rules, a.entropy, c.new-front.ensures.entropy, c.into_parts-clerk.ensures.entropy))
    (sym c.failed-failed.ensures)
    (record { now = r.now; reading = r.reading; draw = r.draw; drawn = r.drawn; letter = r.letter; makes = r.makes; ends = r.ends; doubt = r.doubt; moments = record { later = r.moments.later; each = r.moments.each; before = r.moments.before } })

pub returns-clause-always : goal.returns-clause-always
returns-clause-always g c = answers_always _ _ _ _ _ _ _ _ c.answer-answered.ensures.answered

pub returns-clause-disk_fault : goal.returns-clause-disk_fault
returns-clause-disk_fault g c = λ e.
    let a = c.answer-answered.ensures.answered in
    let n = c.answer-answered.new.self in
    let f = c.new-front.result in
    let loan = held_loan _ _ a.goes.held in
    rose_disk g.F.Disk g.C.Clock.readings g.E.Entropy.draws f.clerk.desk.now c.args.desk.now n.clerk.desk.now _
    (search (rules, c.new-front.ensures.clerk, c.new-clerk.ensures.desk))
    (search (rules, loan, c.new-front.ensures.clerk, c.new-clerk.ensures.loan, c.into_parts-clerk.ensures.clerk, c.into_desk-desk.ensures.now, c.into_desk-desk.ensures.loan))
    (fell_disk _ _ _ _ _ _ _ _ a (ap (taken_status c.answer-answered.result) (sym c.failed-failed.ensures) ∙ e))

pub returns-clause-entropy_fault : goal.returns-clause-entropy_fault
returns-clause-entropy_fault g c = λ e.
    let a = c.answer-answered.ensures.answered in
    let n = c.answer-answered.new.self in
    let f = c.new-front.result in
    rose_moved g.E.Entropy.faults f.entropy.now c.args.entropy.now n.entropy.now _
    (search (rules, c.new-front.ensures.entropy))
    (search (rules, a.entropy, c.new-front.ensures.entropy, c.into_parts-clerk.ensures.entropy))
    (fell_entropy _ _ _ _ _ _ _ _ a (ap (taken_status c.answer-answered.result) (sym c.failed-failed.ensures) ∙ e))

pub returns-clause-loan : goal.returns-clause-loan
returns-clause-loan g c =
    let a = c.answer-answered.ensures.answered in
    let n = c.answer-answered.new.self in
    let f = c.new-front.result in
    let loan = held_loan _ _ a.goes.held in
    same_loan g.F.Disk g.C.Clock.readings g.E.Entropy.draws f.clerk.desk.now c.args.desk.now n.clerk.desk.now _
    (search (rules, c.new-front.ensures.clerk, c.new-clerk.ensures.desk))
    (search (rules, loan, c.new-front.ensures.clerk, c.new-clerk.ensures.loan, c.into_parts-clerk.ensures.clerk, c.into_desk-desk.ensures.now, c.into_desk-desk.ensures.loan))
    (held_disk _ _ a.goes.held)
