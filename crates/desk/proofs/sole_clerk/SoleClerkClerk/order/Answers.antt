use Rattle.desk.specs.History.{history_of}
use Rattle.desk.specs.Due.{event_time}
use Rattle.desk.proofs.VerdictLemmas.{begins_self}
use Rattle.desk.proofs.ClerkLemmas.{ordered_gains, ordered_memory}
use Rattle.desk.proofs.sole_clerk.SoleClerkClerk.order.Goals as goal

pub returns-clause-ends : goal.returns-clause-ends
returns-clause-ends g c =
    let s = c.args.self.now in
    record { before = history_of s.desk.now; begun = begins_self (history_of s.desk.now); doubt = s.desk.now.doubt; left = c.order.new.self.doubt; ordered = c.order.ensures.ends; lawful = c.order.new.self.lawful }

pub returns-clause-mine : goal.returns-clause-mine
returns-clause-mine g c =
    let s = c.args.self.now in
    (ordered_gains s.opening (history_of s.desk.now) s.desk.now.doubt c.args.order.now (event_time (history_of s.desk.now) c.args.now) c.order.result (history_of c.order.new.self) c.order.new.self.doubt s.since c.order.ensures.ends).mine

pub returns-clause-memory : goal.returns-clause-memory
returns-clause-memory g c =
    let s = c.args.self.now in
    ordered_memory (history_of s.desk.now) s.desk.now.doubt c.args.order.now (event_time (history_of s.desk.now) c.args.now) c.order.result (history_of c.order.new.self) c.order.new.self.doubt c.order.ensures.ends
