use Rattle.program_runs.proofs.Following.{all_law}
use Rattle.program_runs.proofs.all.all_program_runs_have_one_history.Goals as goal

pub returns : goal.returns
returns g c = all_law g.D.Disk (record { input_faults = g.S.Source.faults; key_faults = g.K.Source.faults; entropy_faults = g.E.Entropy.faults; readings = g.C.Clock.readings; draws = g.E.Entropy.draws }) c.every_run_is_a_visit.ensures c.all_runs_have_one_history.ensures
