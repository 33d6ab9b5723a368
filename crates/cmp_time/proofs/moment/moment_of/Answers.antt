-- the date of a day number from 0 on is that of the moment
use Rattle.std.proofs.Common.{◌∙◌, ap, arith, w8, w16, unsigned_abs}
use Rattle.std.proofs.lemmas.Int.{to_z-of_z}
use Rattle.jiff_core.proofs.SignedLemmas.{signed_arith}
use Rattle.jiff_core.proofs.CalendarLemmas.{days_in_month_bounds}
use Rattle.cmp_time.proofs.MomentLemmas.{moment_from}
use Rattle.cmp_time.proofs.moment.moment_of.Goals as goal

pub returns : goal.returns
returns c =
    let d = c.day_after-date.result in
    moment_from c.args.t d _ _ _ c.day_after-date.ensures
    (c.unsigned_abs.ensures.value ∙ ap unsigned_abs (to_z-of_z w16 c.year.result (omega (arith, signed_arith, c.year.ensures, d.year_in)) ∙ c.year.ensures))
    (ap unsigned_abs (to_z-of_z w8 c.month.result (omega (arith, signed_arith, c.month.ensures, d.month_in)) ∙ c.month.ensures))
    (ap unsigned_abs (to_z-of_z w8 c.day.result (omega (arith, signed_arith, c.day.ensures, d.day_in, days_in_month_bounds d.year d.month)) ∙ c.day.ensures))
