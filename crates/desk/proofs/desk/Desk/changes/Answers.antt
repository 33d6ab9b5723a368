use Rattle.std.proofs.Common.{◌≤◌, List, length, sym, subst}
use Rattle.deal_model.specs.Views.{AreTimely}
use Rattle.deal_changes.specs.declared.change.Change.{Change}
use Rattle.desk.specs.History.{history_of}
use Rattle.desk.proofs.LawfulLemmas.{timely_out}
use Rattle.desk.proofs.LookLemmas.{bounded_out}
use Rattle.desk.proofs.desk.Desk.changes.Goals as goal

pub returns-clause-timely : goal.returns-clause-timely
returns-clause-timely g c = subst AreTimely (sym c.as_slice.ensures.value) (timely_out (history_of c.args.self.now) c.args.self.now.lawful)

pub returns-clause-bounded : goal.returns-clause-bounded
returns-clause-bounded g c = subst (λ (l : List Change). length l ≤ 262144) (sym c.as_slice.ensures.value) (bounded_out (history_of c.args.self.now) c.args.self.now.lawful)
