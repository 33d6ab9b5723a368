-- Each end of the run is a reply to its input.
use Rattle.std.proofs.Common.{◌∙◌, rules}
use Rattle.cmp_ports.specs.Faults.{Rose}
use Rattle.cmpca_tool.proofs.RunLemmas.{told_verdict, cut_read, cut_memory}
use Rattle.cmpca_tool.proofs.tool.run_verify.Goals as goal

pub returns-in-Ok-check-clause-told : goal.returns-in-Ok-check-clause-told
returns-in-Ok-check-clause-told g c =
    told_verdict _ _ _ _ _ _ c.in-Ok-check.verdict
    (rw c.as_slice.ensures.value c.in-Ok.ensures.octets)
    c.in-Ok-check.ensures (c.says.ensures.ends ∙ c.status.ensures) (c.says.ensures.says ∙ c.line.ensures)

pub returns-in-Ok-clause-told : goal.returns-in-Ok-clause-told
returns-in-Ok-clause-told g c = cut_memory _ _ c.args.secret.now _ _ c.no_memory.ensures.ends c.no_memory.ensures.says

pub returns-in-Err-Fault-clause-told : goal.returns-in-Err-Fault-clause-told
returns-in-Err-Fault-clause-told g c =
    let failed : Rose (g.S.Source.faults c.args.input.now) (g.S.Source.faults c.read_up_to.new.source) = search rules in
    cut_read _ _ c.args.secret.now _ _ failed c.read_fault.ensures.ends c.read_fault.ensures.says

pub returns-clause-told : goal.returns-clause-told
returns-clause-told g c = cut_memory _ _ c.args.secret.now _ _ c.no_memory-in-Err-NoMemory.ensures.ends c.no_memory-in-Err-NoMemory.ensures.says
