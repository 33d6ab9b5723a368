-- the calendar has the day, and it is so many days after the first of 1970
use Rattle.std.proofs.Common.{◌∙◌, arith, w64, to_z}
use Rattle.std.proofs.lemmas.Int.{to_z_pos}
use Rattle.jiff.proofs.SpanFacts.{date_add-days, can_add-days}
use Rattle.cmp_time.proofs.MomentLemmas.{in_calendar, days_after, ok_not_err}
use Rattle.cmp_time.proofs.moment.day_after.Goals as goal

pub unreachable-requires : goal.unreachable-requires
unreachable-requires c =
    let can = can_add-days c.epoch.result (to_z w64 c.args.days) c.days.result c.days.ensures in
    ok_not_err c.checked_add.result c.in_default.field-0 (c.checked_add.ensures.succeeds.1 (can.1 (in_calendar _ _ c.args.days c.epoch.ensures (to_z_pos w64 _ (omega arith)) c.requires))) c.in_default.is

pub returns : goal.returns
returns c = c.in-Ok.ensures.value ∙ date_add-days c.epoch.result (to_z w64 c.args.days) c.days.result c.days.ensures ∙ days_after _ _ c.args.days c.epoch.ensures (to_z_pos w64 _ (omega arith))
