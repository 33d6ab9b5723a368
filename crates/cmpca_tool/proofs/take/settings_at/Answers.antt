-- A legal history begins with its founding, whose settings may be used.
use Rattle.std.proofs.Common.{subst, sym}
use Rattle.desk.proofs.LookLemmas.{founded_out}
use Rattle.reply_maker.specs.Keys.{AreUsable}
use Rattle.cmpca_tool.proofs.TakeLemmas.{usable_out, first_is, settings_first}
use Rattle.cmpca_tool.proofs.take.settings_at.Goals as goal

pub unreachable-requires : goal.unreachable-requires
unreachable-requires g c =
    let h = c.args.desk.now.history.items in
    let first = first_is h c.change_at.result.now (founded_out h c.stands_for_its_disk.ensures.lawful) c.change_at.ensures in
    c.in_default.not-Found first.0 first.1

pub returns-clause-usable : goal.returns-clause-usable
returns-clause-usable g c =
    let h = c.args.desk.now.history.items in
    subst AreUsable (sym (settings_first h _ (rw c.in-Found.is at c.change_at.ensures))) (usable_out h c.stands_for_its_disk.ensures.lawful)

pub returns-clause-founded : goal.returns-clause-founded
returns-clause-founded g c = founded_out c.args.desk.now.history.items c.stands_for_its_disk.ensures.lawful
