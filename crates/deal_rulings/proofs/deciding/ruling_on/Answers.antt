-- The message stands inside another one.
use Rattle.deal_rulings.proofs.deciding.ruling_on.Goals as goal

pub returns-in-Some : goal.returns-in-Some
returns-in-Some c = rw c.in-Some.is (rw (← c.event_time.ensures) c.wrapped.ensures)
