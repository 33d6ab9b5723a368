use Rattle.std.proofs.Common.{ap}
use Rattle.desk.specs.History.{history_of}
use Rattle.clerk.proofs.TurnLemmas.{seen_lawful}
use Rattle.clerk.proofs.shared.SharedClerkClerk.granted.Goals as goal

pub returns-clause-lawful : goal.returns-clause-lawful
returns-clause-lawful g c = seen_lawful c.leave.new.seat.me.0.seen (history_of c.granted-receipt.new.self) (ap (λ m. m.0.seen) c.leave.ensures.left) c.stands_for_its_disk.ensures.lawful
