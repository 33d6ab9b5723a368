use Rattle.std.proofs.Common.{ℕ, List, take_all, subst, arith}
use Rattle.std.specs.List.{flat_map}
use Rattle.deal_changes.specs.declared.change.Credential.{Credential}
use Rattle.deal_index.specs.Questions.{questions_of_entry, questions_of_listed}
use Rattle.deal_index.specs.Index.{Notes}
use Rattle.deal_index.proofs.NoteLemmas.{noted_none, noted_entry}
use Rattle.deal_index.proofs.notes.note_entries.Goals as goal

pub loop-entry-init : goal.loop-entry-init
loop-entry-init c = (noted_none c.args.place c.args.firsts.now, omega arith)

pub loop-entry-preserved : goal.loop-entry-preserved
loop-entry-preserved c =
    let e = c.entry-item.result in (
      noted_entry c.args.list.now c.loop-entry.entry-index e (omega arith) c.entry-item.is c.args.place c.args.firsts.now c.loop-entry.firsts c.note_listed.new.firsts c.loop-entry.invariant.0
          (subst (λ (kid : List ℕ). Notes (questions_of_listed e.kind kid) c.args.place c.loop-entry.firsts c.note_listed.new.firsts) c.of.ensures c.note_listed.ensures.notes),
      omega (arith, c.note_listed.ensures.spare, c.loop-entry.invariant.1),
    )

pub returns : goal.returns
returns c = subst (λ (list : List Credential). Notes (flat_map questions_of_entry list) c.args.place c.args.firsts.now c.loop-entry.firsts) (take_all c.loop-entry.entry-index c.args.list.now (omega arith)) c.loop-entry.invariant.0
