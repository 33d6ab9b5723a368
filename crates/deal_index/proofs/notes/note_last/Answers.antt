use Rattle.std.proofs.Common.{ℕ, cond, List, Some, sym, ◌∙◌, ap}
use Rattle.std.specs.Str.{bytes_eq}
use Rattle.indexmap.specs.IndexMap.{get}
use Rattle.deal_index.proofs.GrowLemmas.{lasts_grown}
use Rattle.deal_index.proofs.notes.note_last.Goals as goal

pub returns-in-Some : goal.returns-in-Some
returns-in-Some c = λ h at lasts. lasts_grown h c.args.c.now c.in-Some.stamp.now c.args.place c.args.lasts.now c.put_last.new.lasts at (sym c.in-Some.ensures) lasts
    (λ q. c.put_last.ensures.0 q ∙ ap (λ (t : List ℕ). cond (bytes_eq t q) (Some c.args.place) (get bytes_eq c.args.lasts.now q)) c.of.ensures)
