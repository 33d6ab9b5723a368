-- The reply is by the mount, by why there is no list, or by what the desk did.
use Rattle.std.proofs.Common.{rules, MutBor, inl, inr, refl}
use Rattle.cmp_ports.specs.Faults.{Rose}
use Rattle.cmp_ports.specs.Moments.{started, weaker}
use Rattle.desk.specs.Images.{RecoversWith, MayCome}
use Rattle.cmpca_tool.specs.Deeds.{Enlists, IsFileListed}
use Rattle.cmpca_tool.proofs.RunLemmas.{some_input}
use Rattle.cmpca_tool.proofs.ChangeLemmas.{gave_back, acted, idle}
use Rattle.cmpca_tool.proofs.StepLemmas.{no_step}
use Rattle.cmpca_tool.proofs.EnlistLemmas.{enlisted, own_listed, step_listed, read_of}
use Rattle.cmpca_tool.proofs.enlist.run_enlist.Goals as goal

pub returns-in-Err-clause-told : goal.returns-in-Err-clause-told
returns-in-Err-clause-told g c =
    let i = some_input (g.S.Source.left c.args.input.now) in
    let u = gave_back (λ (r : MutBor g.row.D.Denot). r.now) g.D.Disk.content g.D.Disk.images g.D.Disk.moment g.D.Disk.left_since g.met.D.Disk.honest c.at_most_one_answer.ensures
    _ c.in-Err.failed.0 _ c.in-Err.failed.1 _ _
    (search (rules, c.in-Err.ensures.loan)) c.in-Err.ensures.told c.in-Err.ensures.same c.in-Err.ensures.crash c.in-Err.ensures.moments c.unmounted.ensures.reply in
    record { input = i.0; read = i.1; is_reply = inl (u.0, u.1, refl) }

pub returns-in-Ok-read_list-clause-told : goal.returns-in-Ok-read_list-clause-told
returns-in-Ok-read_list-clause-told g c =
    let f = c.in-Ok-read_list.ensures.read in
    let h = c.in-Ok.desk.history.items in
    let now = λ (r : MutBor g.row.D.Denot). r.now in
    let Failed = Rose (g.S.Source.faults c.args.input.now) (g.S.Source.faults c.read_list.new.input) in
    record {
      input = f.file;
      read = f.whole;
      is_reply = inr (acted now g.D.Disk.content g.D.Disk.images g.D.Disk.moment g.D.Disk.left_since g.met.D.Disk.honest c.at_most_one_answer.ensures
          _ c.in-Ok.desk.disk c.enlist_on-reply.new.desk.disk _ (Enlists Failed f.file c.args.now) (IsFileListed f.file c.args.now) h c.enlist_on-reply.new.desk.history.items c.enlist_on-reply.new.desk.doubt _ _
          (search rules) c.in-Ok.ensures.told c.in-Ok.ensures.moments
          (weaker _ _ _ _ _ (RecoversWith h (MayCome (IsFileListed f.file c.args.now h) h)) c.enlist_on-reply.ensures.moments (λ image left. own_listed f.file _ c.args.now h image f.tells left))
          c.stands_for_its_disk.ensures.images c.stands_for_its_disk.ensures.lawful (step_listed f.file _ c.args.now h _ _ f.tells c.enlist_on-reply.ensures.makes)
          (enlisted Failed f.file _ c.args.now h _ _ c.enlist_on-reply.new.desk.history.items c.enlist_on-reply.new.desk.doubt f.tells c.enlist_on-reply.ensures.reply));
    }

pub returns-in-Err-read_list-clause-told : goal.returns-in-Err-read_list-clause-told
returns-in-Err-read_list-clause-told g c =
    let Failed = Rose (g.S.Source.faults c.args.input.now) (g.S.Source.faults c.read_list.new.input) in
    let f = read_of Failed (g.S.Source.left c.args.input.now) c.in-Err-read_list.unread c.in-Err-read_list.ensures.fault c.in-Err-read_list.ensures.unread in
    let s = c.in-Ok.desk in
    let h = s.history.items in
    let now = λ (r : MutBor g.row.D.Denot). r.now in
    record {
      input = f.file;
      read = f.whole;
      is_reply = inr (acted now g.D.Disk.content g.D.Disk.images g.D.Disk.moment g.D.Disk.left_since g.met.D.Disk.honest c.at_most_one_answer.ensures
          _ s.disk s.disk _ (Enlists Failed f.file c.args.now) (IsFileListed f.file c.args.now) h h s.doubt _ _
          (search rules) c.in-Ok.ensures.told c.in-Ok.ensures.moments
          (started _ _ s.disk (RecoversWith h (MayCome (IsFileListed f.file c.args.now h) h)) (λ image left. idle h s.doubt (MayCome (IsFileListed f.file c.args.now h) h) image c.in-Ok.ensures.clear (c.stands_for_its_disk-in-Err-read_list.ensures.images image (g.met.D.Disk.only_now s.disk.now image left))))
          c.stands_for_its_disk-in-Err-read_list.ensures.images c.stands_for_its_disk-in-Err-read_list.ensures.lawful (no_step (IsFileListed f.file c.args.now h) h h s.doubt refl c.in-Ok.ensures.clear)
          (f.replies c.args.now h _ _ s.doubt c.in-Ok.ensures.clear c.unread_reply.ensures.reply));
    }
