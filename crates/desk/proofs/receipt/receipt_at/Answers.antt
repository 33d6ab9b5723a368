use Rattle.std.proofs.Common.{◌≡◌, refl, subst, Option}
use Rattle.std.specs.Prelude.{IfOk}
use Rattle.deal_table.specs.History.{Receipted}
use Rattle.desk.proofs.ReceiptLemmas.{at_place}
use Rattle.desk.proofs.receipt.receipt_at.Goals as goal

pub returns : goal.returns
returns c = subst (λ (x : Option Receipted). IfOk c.receipt_behind.result (λ r. r ≡ x)) (at_place c.args.h.now c.args.place _ _ c.requires.low c.requires.high refl c.index-h-index.is) c.receipt_behind.ensures
