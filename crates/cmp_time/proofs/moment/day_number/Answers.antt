-- the calendar's days have such numbers
use Rattle.std.proofs.Common.{sym, subst, ◌∙◌, arith, w64}
use Rattle.std.proofs.lemmas.Int.{to_z-of_z}
use Rattle.jiff_core.proofs.SignedLemmas.{signed_arith}
use Rattle.jiff.specs.Words.{IsEpochDay}
use Rattle.jiff_core.proofs.DateLemmas.{epoch_day_range}
use Rattle.cmp_time.proofs.moment.day_number.Goals as goal

pub returns-clause-bound : goal.returns-clause-bound
returns-clause-bound c = subst IsEpochDay (sym (to_z-of_z w64 c.days_to.result (omega (arith, signed_arith, c.days_to.ensures, epoch_day_range c.args.date)) ∙ c.days_to.ensures)) (epoch_day_range c.args.date)
