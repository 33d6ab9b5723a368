-- The reply is by what becomes of the disk.
use Rattle.std.proofs.Common.{rules, MutBor, inr, ◌∙◌}
use Rattle.desk.specs.Founded.{founding}
use Rattle.deal_changes.specs.Spelling.{spelling}
use Rattle.cmpca_tool.proofs.InitReplyLemmas.{not_begun, cut_off, has_founded, unfounded, tells_memory}
use Rattle.cmpca_tool.proofs.init.found_on.Goals as goal

pub returns-in-Err-clause-reply : goal.returns-in-Err-clause-reply
returns-in-Err-clause-reply g c =
    let first = founding c.args.settings.now c.args.now in
    inr (inr (cut_off g.D.Disk.content g.D.Disk.images g.D.Disk.moment g.D.Disk.left_since c.args.disk.now c.args.disk.now first _ _ c.requires.first c.requires.free
    (not_begun g.D.Disk.content g.D.Disk.images g.D.Disk.moment g.D.Disk.left_since g.met.D.Disk.only_now c.args.disk.now (spelling first)) (tells_memory _ _ c.no_memory.ensures.ends c.no_memory.ensures.says)))

pub returns-in-Ok-found-clause-reply : goal.returns-in-Ok-found-clause-reply
returns-in-Ok-found-clause-reply g c =
    has_founded (λ (r : MutBor g.row.D.Denot). r.now) g.D.Disk.content g.D.Disk.images g.D.Disk.moment g.D.Disk.left_since g.met.D.Disk.honest
    _ c.in-Ok-found.desk.disk _ c.args.identity.now (founding c.args.settings.now c.args.now) c.in-Ok-found.desk.history.items c.in-Ok-found.desk.doubt _ _
    (search (rules, c.in-Ok-found.ensures.loan)) c.in-Ok-found.ensures.told c.requires.first c.in-Ok-found.ensures.founded.0 c.in-Ok-found.ensures.founded.1
    c.stands_for_its_disk.ensures.images c.in-Ok-found.ensures.moments c.made.ensures.ends (c.made.ensures.says ∙ c.in-Ok.ensures)

pub returns-in-Err-found-clause-reply : goal.returns-in-Err-found-clause-reply
returns-in-Err-found-clause-reply g c =
    unfounded (λ (r : MutBor g.row.D.Denot). r.now) g.D.Disk.content g.D.Disk.images g.D.Disk.moment g.D.Disk.left_since g.met.D.Disk.honest
    _ c.in-Err-found.failed.0 _ c.args.identity.now (founding c.args.settings.now c.args.now) c.in-Err-found.failed.1 _ _
    (search (rules, c.in-Err-found.ensures.loan)) c.requires.first c.requires.free c.in-Err-found.ensures.told c.in-Err-found.ensures.same c.in-Err-found.ensures.crash c.in-Err-found.ensures.untouched c.in-Err-found.ensures.moments c.unfounded_reply.ensures.reply
