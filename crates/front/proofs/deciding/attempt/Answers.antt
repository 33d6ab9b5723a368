use Rattle.front.specs.Fronts.{replier_by}
use Rattle.front.proofs.Joins.{begins_on}
use Rattle.front.proofs.Rulings.{ruled_by, told_by_then, spent_by}
use Rattle.front.proofs.deciding.attempt.Goals as goal

pub returns-in-Ok-clause-ruled : goal.returns-in-Ok-clause-ruled
returns-in-Ok-clause-ruled g c = λ b is. ruled_by g.K.Clerk (replier_by c.args.keys.now) b c.args.clerk.now c.tell.new.clerk c.decision.new.clerk c.args.now c.args.words.now c.args.checked.now c.tell.new.checked c.decision.result c.tell.ensures.asked c.in-Ok.ensures.told c.decision.ensures is

pub returns-in-Ok-clause-told : goal.returns-in-Ok-clause-told
returns-in-Ok-clause-told g c = λ b is. told_by_then g.K.Clerk (replier_by c.args.keys.now) b c.args.clerk.now c.tell.new.clerk c.decision.new.clerk c.args.now c.args.words.now c.args.checked.now c.tell.new.checked c.decision.result c.tell.ensures.asked c.in-Ok.ensures.told c.decision.ensures is

pub returns-in-Err-clause-ruled : goal.returns-in-Err-clause-ruled
returns-in-Err-clause-ruled g c = λ b is. spent_by g.K.Clerk (replier_by c.args.keys.now) b c.args.clerk.now c.tell.new.clerk c.args.now c.args.words.now c.args.checked.now c.tell.new.checked c.tell.ensures.asked c.in-Err.ensures.same is

pub returns-in-Ok-clause-grown : goal.returns-in-Ok-clause-grown
returns-in-Ok-clause-grown g c = begins_on (g.K.Clerk.seen c.args.clerk.now) (g.K.Clerk.seen c.tell.new.clerk) (g.K.Clerk.seen c.decision.new.clerk) c.tell.ensures.asked.grown c.decision.ensures.grown
