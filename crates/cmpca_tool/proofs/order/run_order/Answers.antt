-- The reply is by the mount, and by what the desk did.
use Rattle.std.proofs.Common.{rules, MutBor, inl, inr, subst}
use Rattle.cmp_ports.specs.Faults.{Rose}
use Rattle.cmpca_tool.specs.Deeds.{Obeys, IsOrderedAt}
use Rattle.cmpca_tool.proofs.ChangeLemmas.{gave_back, acted}
use Rattle.cmpca_tool.proofs.order.run_order.Goals as goal

pub returns-in-Err-clause-reply : goal.returns-in-Err-clause-reply
returns-in-Err-clause-reply g c = inl
    (gave_back (λ (r : MutBor g.row.D.Denot). r.now) g.D.Disk.content g.D.Disk.images g.D.Disk.moment g.D.Disk.left_since g.met.D.Disk.honest c.at_most_one_answer.ensures
    _ c.in-Err.failed.0 _ c.in-Err.failed.1 _ _
    (search (rules, c.in-Err.ensures.loan)) c.in-Err.ensures.told c.in-Err.ensures.same c.in-Err.ensures.crash c.in-Err.ensures.moments c.unmounted.ensures.reply)

pub returns-clause-reply : goal.returns-clause-reply
returns-clause-reply g c = inr
    (acted (λ (r : MutBor g.row.D.Denot). r.now) g.D.Disk.content g.D.Disk.images g.D.Disk.moment g.D.Disk.left_since g.met.D.Disk.honest c.at_most_one_answer.ensures
    _ c.in-Ok.desk.disk c.order_on-reply.new.desk.disk _ (Obeys c.args.order.now c.args.done.now c.args.now) (IsOrderedAt c.args.order.now c.args.now) c.in-Ok.desk.history.items c.order_on-reply.new.desk.history.items c.order_on-reply.new.desk.doubt _ _
    (search rules) c.in-Ok.ensures.told c.in-Ok.ensures.moments c.order_on-reply.ensures.moments c.stands_for_its_disk.ensures.images c.stands_for_its_disk.ensures.lawful c.order_on-reply.ensures.makes c.order_on-reply.ensures.reply)

pub returns-in-Err-clause-disk_fault : goal.returns-in-Err-clause-disk_fault
returns-in-Err-clause-disk_fault g c = λ e. subst (λ d. Rose (g.D.Disk.faults c.args.disk.now) (g.D.Disk.faults d)) (search (rules, c.in-Err.ensures.loan)) (c.in-Err.ensures.fault (c.unmounted.ensures.disk e))

pub returns-clause-disk_fault : goal.returns-clause-disk_fault
returns-clause-disk_fault g c = λ e. subst (λ d. Rose (g.D.Disk.faults c.args.disk.now) (g.D.Disk.faults d)) (search rules) (rw c.in-Ok.ensures.later at c.order_on-reply.ensures.disk_fault e)
