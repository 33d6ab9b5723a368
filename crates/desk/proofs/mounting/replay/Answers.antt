-- A change that may come next joins the history, and a payload that spells none stops it.
use Rattle.std.proofs.Common.{ℕ, List, [], Bool, not, Err, sym, ◌∙◌, ap, subst}
use Rattle.deal_model.specs.Views.{History, AreTimely}
use Rattle.deal_model.specs.Rules.{Allowed}
use Rattle.deal_rules.proofs.Histories.{timely_from}
use Rattle.desk.specs.Mounts.{IsStopped}
use Rattle.desk.proofs.MountLemmas.{joined, replayed_more, replayed_stuck}
use Rattle.desk.proofs.mounting.replay.Goals as goal

pub next_change-requires : goal.next_change-requires
next_change-requires c = subst (λ (h : History). AreTimely h) (sym c.deref.ensures.value) (timely_from [] c.loop-payload.history.items c.loop-payload.invariant.0)

pub returns-in-Err-BadChange : goal.returns-in-Err-BadChange
returns-in-Err-BadChange c =
    let h = c.loop-payload.history.items in
    let stopped = c.in-Err-BadChange.ensures.none (ap Err c.in-Err-BadChange.field-0-is) in
    replayed_stuck c.args.payloads.now c.loop-payload.payload-index c.loop-payload.at h c.payload-item.result c.loop-payload.invariant c.loop-payload-test.true c.payload-item.is
    (subst (λ (l : History). IsStopped l c.payload-item.result) c.deref.ensures.value (subst (λ (p : List ℕ). IsStopped c.deref.result.now p) c.as_slice.ensures stopped))

pub loop-payload-preserved : goal.loop-payload-preserved
loop-payload-preserved c =
    let h = c.loop-payload.history.items in
    let next = c.in-Ok.ensures.next in
    replayed_more c.args.payloads.now c.loop-payload.payload-index c.loop-payload.at c.len.result h c.push.new.self.items c.in-Ok.change c.payload-item.result c.loop-payload.invariant c.loop-payload-test.true c.payload-item.is c.len.ensures
    (subst (λ (l : History). Allowed l c.in-Ok.change) c.deref.ensures.value next.0, sym c.as_slice.ensures ∙ next.1)
    (joined c.push.result c.push.new.self.items h c.in-Ok.change c.push.ensures.items (c.is_err.ensures.negation ∙ ap (λ (b : Bool). not b) c.if-is_err.false))
