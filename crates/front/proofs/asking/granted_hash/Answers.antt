use Rattle.std.proofs.Common.{sym, ◌∙◌}
use Rattle.front.specs.Clerks.{clerked}
use Rattle.front.proofs.Joins.{has_on}
use Rattle.front.proofs.Replies.{filled_by, granted_force, granted_is}
use Rattle.front.proofs.asking.granted_hash.Goals as goal

pub grant_hash-requires-clause-grant : goal.grant_hash-requires-clause-grant
grant_hash-requires-clause-grant g c = granted_is (clerked g.K.Clerk c.granted.new.self) c.args.tid.now c.in-Ok-Some.receipt c.granted.ensures.lawful (sym c.in-Ok-Some.ensures.answer ∙ c.in-Ok-Some.field-0-is)

pub grant_hash-requires-clause-made : goal.grant_hash-requires-clause-made
grant_hash-requires-clause-made g c = filled_by (clerked g.K.Clerk c.granted.new.self) c.args.keys.now.settings c.granted.ensures.lawful (has_on _ _ c.args.keys.now.settings c.requires.settings c.granted.ensures.grown)

pub grant_hash-requires-clause-force : goal.grant_hash-requires-clause-force
grant_hash-requires-clause-force g c = granted_force (clerked g.K.Clerk c.granted.new.self) c.args.keys.now.settings c.args.tid.now c.in-Ok-Some.receipt c.granted.ensures.lawful (has_on _ _ c.args.keys.now.settings c.requires.settings c.granted.ensures.grown) (sym c.in-Ok-Some.ensures.answer ∙ c.in-Ok-Some.field-0-is)
