use Rattle.std.proofs.Common.{rules}
use Rattle.workers.proofs.StationLemmas.{attended_joined}
use Rattle.workers.proofs.attending.WorkersCrewBadgeViewChangeStationAccount.join.Goals as goal

pub returns : goal.returns
returns g c = λ whole own rest front front' back back' splits x y.
    attended_joined _ _ _ _ _ _ _ whole.views own.views rest.views front front' back back' c.args.one c.args.others _ splits x y
    (search (rules, c.join.ensures.own, c.into_seat-seat.ensures, c.into_badge.ensures, x.rests.own))
    (search (rules, c.join.ensures.joined, c.into_seat-seat.ensures, c.into_seat.ensures, c.into_badge.ensures))
    (search (rules, c.join.ensures.seen, c.join.ensures.joined, c.into_seat-seat.ensures, c.into_seat.ensures, c.into_badge.ensures))
    (search (rules, c.join.ensures.seen, c.join.ensures.joined, c.into_seat-seat.ensures, c.into_seat.ensures, c.into_badge.ensures))
    (search rules) (search rules) (search rules) (search rules)
