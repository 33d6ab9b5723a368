-- The reply is by the mount, by why there is no message, or by what the front answered.
use Rattle.std.proofs.Common.{inl, inr, rules, refl, sym, ◌∙◌, ap, MutBor}
use Rattle.cmpca_tool.proofs.TakeLemmas.{unused_run, unread_run, taken_run, own_settings}
use Rattle.cmpca_tool.proofs.take.run_take.Goals as goal

pub answer_on-taken-requires-clause-settings : goal.answer_on-taken-requires-clause-settings
answer_on-taken-requires-clause-settings g c =
    own_settings _ _ c.in-Ok.desk.history.items c.in-Ok-read_request.request.keys c.settings_at.ensures.same c.in-Ok-read_request.ensures.keys.gives

pub returns-in-Err-clause-told : goal.returns-in-Err-clause-told
returns-in-Err-clause-told g c =
    unused_run (λ (r : MutBor g.row.D.Denot). r.now) g.D.Disk.content g.D.Disk.images g.D.Disk.moment g.D.Disk.left_since g.met.D.Disk.honest c.at_most_one_answer.ensures
    _ c.in-Err.failed.0 _ _ _ _ c.in-Err.failed.1 _ _ _ _
    (search (rules, c.in-Err.ensures.loan)) c.in-Err.ensures.told c.in-Err.ensures.same c.in-Err.ensures.crash c.in-Err.ensures.moments refl refl (refl, refl) c.unmounted.ensures.reply

pub returns-in-Ok-read_request-clause-told : goal.returns-in-Ok-read_request-clause-told
returns-in-Ok-read_request-clause-told g c =
    taken_run (λ (r : MutBor g.row.D.Denot). r.now) g.D.Disk.content g.D.Disk.images g.D.Disk.moment g.D.Disk.left_since g.met.D.Disk.honest c.at_most_one_answer.ensures
    _ c.in-Ok.desk.disk c.answer_on-taken.new.desk.disk _ _ _ _ c.in-Ok.desk.history.items c.answer_on-taken.new.desk.history.items c.answer_on-taken.new.desk.doubt
    c.settings_at.result.now c.in-Ok-read_request.request.keys c.in-Ok-read_request.request.octets.items _ _ _ _
    (search rules) c.in-Ok.ensures.told c.in-Ok.ensures.moments c.stands_for_its_disk.ensures.images c.stands_for_its_disk.ensures.lawful
    c.settings_at.ensures.same c.in-Ok-read_request.ensures.keys c.in-Ok-read_request.ensures.bound c.in-Ok-read_request.ensures.octets
    (λ e. c.answer_on-taken.ensures.entropy_fault (sym c.taken_reply.ensures.ends ∙ e))
    (rw (c.taken_reply.ensures.ends, c.taken_reply.ensures.says) c.answer_on-taken.ensures.answering)

pub returns-in-Err-read_request-clause-told : goal.returns-in-Err-read_request-clause-told
returns-in-Err-read_request-clause-told g c =
    let r = c.in-Err-read_request.ensures in
    unread_run (λ (r : MutBor g.row.D.Denot). r.now) g.D.Disk.content g.D.Disk.images g.D.Disk.moment g.D.Disk.left_since g.met.D.Disk.honest c.at_most_one_answer.ensures
    _ c.in-Ok.desk.disk _ _ _ _ c.in-Ok.desk.history.items c.in-Ok.desk.doubt c.settings_at.result.now c.in-Err-read_request.untaken _ _ _ _
    (search rules) c.in-Ok.ensures.told c.in-Ok.ensures.same c.in-Ok.ensures.crash c.in-Ok.ensures.moments c.in-Ok.ensures.clear c.stands_for_its_disk-in-Err-read_request.ensures.images (refl, refl)
    (record { key = search (rules, r.key_fault); input = search (rules, r.input_fault); unread = r.untouched })
    c.settings_at.ensures.same r.unread c.untaken_reply.ensures.reply

pub returns-in-Ok-read_request-clause-read_fault : goal.returns-in-Ok-read_request-clause-read_fault
returns-in-Ok-read_request-clause-read_fault g c = λ e. inr (c.answer_on-taken.ensures.entropy_fault (sym c.taken_reply.ensures.ends ∙ e))
