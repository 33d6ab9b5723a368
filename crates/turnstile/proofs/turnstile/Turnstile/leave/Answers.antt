use Rattle.std.proofs.Common.{rules}
use Rattle.turnstile.proofs.AtSeats.{counts_as, passes_as}
use Rattle.turnstile.proofs.turnstile.Turnstile.leave.Goals as goal

pub load-count-requires : goal.load-count-requires
load-count-requires g c = (search rules, search rules, counts_as _ _ _ _ _ _ _ c.requires.turn)

pub fetch_add-served-requires : goal.fetch_add-served-requires
fetch_add-served-requires g c = (search rules, search rules, passes_as _ _ _ _ _ _ c.args.seat.now.me c.load-count.new.seat.me c.publish.new.seat.me _ c.args.value c.requires.kept c.requires.turn c.load-count.ensures.2.1 c.publish.ensures.told c.exchange.ensures.3)
