-- days are counted from this one
use Rattle.cmp_time.proofs.MomentLemmas.{epoch_is}
use Rattle.cmp_time.proofs.moment.epoch.Goals as goal

pub returns : goal.returns
returns c = epoch_is c.date.result c.date.ensures
