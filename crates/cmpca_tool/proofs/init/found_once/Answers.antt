-- The reply is by what the disk holds, which a look at it leaves as it is.
use Rattle.std.proofs.Common.{inl, inr}
use Rattle.desk.specs.Founded.{founding}
use Rattle.cmpca_tool.proofs.InitReplyLemmas.{looked, was_founded, not_looked}
use Rattle.cmpca_tool.proofs.init.found_once.Goals as goal

pub returns-in-Ok-false-clause-reply : goal.returns-in-Ok-false-clause-reply
returns-in-Ok-false-clause-reply g c =
    let first = founding c.args.settings.now c.args.now in
    looked g.D.Disk.content g.D.Disk.images g.D.Disk.moment g.D.Disk.left_since c.args.disk.now c.is_founded.new.disk c.found_on.new.disk
    c.is_founded.ensures.same c.is_founded.ensures.crash c.is_founded.ensures.moments c.args.identity.now first _ _ c.found_on.ensures.reply
