-- The reply of the work is written.
use Rattle.cmpca_tool.specs.declared.status.Status.TheVariants as status
use Rattle.std.proofs.Common.{◌≡◌}
use Rattle.cmpca_tool.proofs.RunLemmas.{ran_of, ends_so}
use Rattle.cmpca_tool.proofs.tool.run_tool.Goals as goal

no_read : status.ReadFault ≡ status.WriteFault → ⊥
no_read e = cc e

no_disk : status.DiskFault ≡ status.WriteFault → ⊥
no_disk e = cc e

pub returns-clause-ran : goal.returns-clause-ran
returns-clause-ran g c = ran_of _ _ _ _ _ _ _ _ c.work-reply.ensures.told c.finish.ensures.wrote

pub returns-clause-read_fault : goal.returns-clause-read_fault
returns-clause-read_fault g c = λ e. c.work-reply.ensures.read_fault (ends_so _ _ _ _ _ _ c.finish.ensures.wrote no_read e)

pub returns-clause-disk_fault : goal.returns-clause-disk_fault
returns-clause-disk_fault g c = λ e. c.work-reply.ensures.disk_fault (ends_so _ _ _ _ _ _ c.finish.ensures.wrote no_disk e)
