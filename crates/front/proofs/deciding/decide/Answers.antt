use Rattle.front.specs.Fronts.{replier_by}
use Rattle.front.proofs.Joins.{has_on}
use Rattle.front.proofs.Rulings.{ruled_again}
use Rattle.front.proofs.deciding.decide.Goals as goal
use Rattle.std.proofs.Common.{refl}

pub attempt-requires-in-Stale-clause-settings : goal.attempt-requires-in-Stale-clause-settings
attempt-requires-in-Stale-clause-settings g c = has_on (g.K.Clerk.seen c.args.clerk.now) (g.K.Clerk.seen c.attempt.new.clerk) c.args.keys.now.settings c.requires.settings c.attempt.ensures.grown

pub returns-in-Stale-clause-ruled : goal.returns-in-Stale-clause-ruled
returns-in-Stale-clause-ruled g c = λ b is. let first = c.in-Stale.ensures.ruled b is in
    ruled_again g.K.Clerk (replier_by c.args.keys.now) b c.args.clerk.now c.attempt.new.clerk c.attempt-in-Stale.new.clerk c.args.now c.args.words.now c.attempt.new.checked c.attempt-in-Stale.new.checked c.in-Stale.place c.attempt-in-Stale.result first (c.attempt-in-Stale.ensures.ruled b first.carried)

pub returns-in-Stale-clause-told : goal.returns-in-Stale-clause-told
returns-in-Stale-clause-told g c = λ b is. let first = c.in-Stale.ensures.ruled b is in c.attempt-in-Stale.ensures.told b first.carried (first.stale refl)
