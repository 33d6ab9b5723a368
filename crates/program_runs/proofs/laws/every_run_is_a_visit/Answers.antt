use Rattle.program_runs.proofs.Law.{law}
use Rattle.program_runs.proofs.laws.every_run_is_a_visit.Goals as goal

pub returns : goal.returns
returns g c = law g.D.Disk g.S.Source.faults g.K.Source.faults g.E.Entropy.faults g.C.Clock.readings g.E.Entropy.draws
