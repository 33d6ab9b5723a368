use Rattle.std.proofs.Common.{◌≤◌, sym, subst}
use Rattle.deal_model.specs.Views.{History}
use Rattle.deal_table.specs.History.{event_time}
use Rattle.deal_table.specs.declared.look.Look.{Look}
use Rattle.desk.specs.History.{history_of}
use Rattle.desk.proofs.FitLemmas.{event_bound}
use Rattle.desk.proofs.desk.Desk.look.Goals as goal

pub returns-clause-time : goal.returns-clause-time
returns-clause-time g c =
    let s = c.args.self.now in
    subst (λ (l : Look). l.time ≤ 250000000000) (sym c.look_of.ensures) (subst (λ (h : History). event_time h c.args.now ≤ 250000000000) (sym c.changes.ensures.value) (event_bound (history_of s) c.args.now s.lawful c.requires))
