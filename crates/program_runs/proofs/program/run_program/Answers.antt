-- The contract of the run is the premise of the law.
use Rattle.program_runs.proofs.Joined.{program_visits}
use Rattle.program_runs.proofs.program.run_program.Goals as goal

pub returns-clause-visits : goal.returns-clause-visits
returns-clause-visits g c =
    program_visits g.D.Disk c.args.disk.now c.run_tool.new.disk _ _ _ _
    (c.every_run_is_a_visit.ensures c.args.disk.now c.run_tool.new.disk c.args.input.now c.run_tool.new.input c.args.key.now c.run_tool.new.key c.args.clock.now c.run_tool.new.clock c.args.entropy.now c.run_tool.new.entropy _)
    _ _ _ _ _ c.run_tool.ensures.ran c.run_tool.ensures.same c.run_tool.ensures.crash c.run_tool.ensures.moments
