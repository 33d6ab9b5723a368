use Rattle.std.proofs.Common.{rules}
use Rattle.turnstile.proofs.AtSeats.{gets_as}
use Rattle.turnstile.proofs.Steps.{takes_ticket}
use Rattle.turnstile.proofs.turnstile.Turnstile.enter.Goals as goal

pub fetch_add-ticket-requires : goal.fetch_add-ticket-requires
fetch_add-ticket-requires g c = (search rules, search rules, takes_ticket _ _ _ _ _ _ _ c.requires.rests.1 c.requires.rests.2)

pub exchange-requires : goal.exchange-requires
exchange-requires g c = (search rules, gets_as _ _ c.fetch_add-ticket.new.seat.me c.wait.new.seat.me c.wait.ensures.got)
