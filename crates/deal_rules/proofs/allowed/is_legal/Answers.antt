-- What is allowed so far stays so with one change more, and where one isn't allowed the history isn't legal.
use Rattle.std.proofs.Common.{[], take, get_or, refl, sym, subst}
use Rattle.std.proofs.lemmas.List.{take_more, take_all}
use Rattle.deal_changes.specs.declared.change.Change.{Change}
use Rattle.deal_model.specs.Views.{History}
use Rattle.deal_model.specs.Rules.{Allowed, AllowedFrom}
use Rattle.deal_rules.proofs.Histories.{from_push, allowed_at, timely_from}
use Rattle.deal_rules.proofs.allowed.is_legal.Goals as goal

pub is_allowed-requires : goal.is_allowed-requires
is_allowed-requires c = timely_from [] (take c.loop-i.i c.args.h.now) c.loop-i.invariant

pub returns-then-not-is_allowed-clause-only : goal.returns-then-not-is_allowed-clause-only
returns-then-not-is_allowed-clause-only c = λ legal. c.if-not-is_allowed.ensures.only (subst (λ (x : Change). Allowed (take c.loop-i.i c.args.h.now) x) (sym c.index-h-i.is) (allowed_at [] c.args.h.now c.loop-i.i c.index-h-i.result legal.1 c.loop-i-test.true))

pub loop-i-preserved : goal.loop-i-preserved
loop-i-preserved c = subst (λ (g : History). AllowedFrom [] g) (sym (take_more c.args.h.now c.loop-i.i c.index-h-i.result c.loop-i-test.true)) (from_push [] (take c.loop-i.i c.args.h.now) (get_or c.args.h.now c.loop-i.i c.index-h-i.result) c.loop-i.invariant (subst (λ (x : Change). Allowed (take c.loop-i.i c.args.h.now) x) c.index-h-i.is (c.if-not-is_allowed.ensures.allowed refl)))

pub returns-clause-timely : goal.returns-clause-timely
returns-clause-timely c = λ _. timely_from [] c.args.h.now (subst (λ (g : History). AllowedFrom [] g) (take_all c.loop-i.i c.args.h.now c.loop-i-test.false) c.loop-i.invariant)
