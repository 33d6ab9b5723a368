use Rattle.std.proofs.Common.{rules}
use Rattle.turnstile.proofs.AtSeats.{looks_as}
use Rattle.turnstile.proofs.turnstile.Turnstile.wait.Goals as goal

-- the seat waits with the ticket, as it did at the start
pub load-found-requires : goal.load-found-requires
load-found-requires g c = (search rules, search rules, looks_as _ _ _ _ _ _ _ c.args.ticket (rw c.loop.invariant.2 c.requires.waits))
