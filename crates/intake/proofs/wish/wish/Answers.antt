-- what is asked for is no longer than a message
use Rattle.intake.proofs.Wished.{made_fits}
use Rattle.intake.proofs.wish.wish.Goals as goal

pub returns-clause-fits : goal.returns-clause-fits
returns-clause-fits c e = made_fits c.wish_made.result c.args.asked.now c.wish_made.ensures c.requires e
