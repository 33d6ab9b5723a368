use Rattle.std.proofs.Common.{rules}
use Rattle.turnstile.proofs.AtSeats.{hears_as}
use Rattle.turnstile.proofs.Seats.{joins}
use Rattle.turnstile.proofs.turnstile.Turnstile.join.Goals as goal

pub join_seat-requires : goal.join_seat-requires
join_seat-requires g c = (search rules, search rules, search rules, search rules, joins _ _ _ _ _ _ _ _ c.requires.rests.0.1 c.requires.rests.1.1 c.requires.rests.0.2)

pub load-requires : goal.load-requires
load-requires g c = (search rules, search rules, hears_as _ _ _ _ _ _ c.args.seat.now.me.0 c.args.other.me.0 c.args.seat.now.me.1 _ c.requires.rests.0.2 c.requires.rests.0.0 c.join_seat.ensures.2)
