use Rattle.desk.specs.History.{history_of}
use Rattle.desk.specs.Due.{event_time}
use Rattle.desk.proofs.VerdictLemmas.{begins_self}
use Rattle.desk.proofs.ClerkLemmas.{lapsed_gains, lapsed_memory}
use Rattle.desk.proofs.sole_clerk.SoleClerkClerk.lapse.Goals as goal

pub returns-clause-ends : goal.returns-clause-ends
returns-clause-ends g c =
    let d = c.args.self.now.desk.now in
    record { before = history_of d; begun = begins_self (history_of d); doubt = d.doubt; left = c.lapse.new.self.doubt; lapsed = c.lapse.ensures.ends; lawful = c.lapse.new.self.lawful }

pub returns-clause-mine : goal.returns-clause-mine
returns-clause-mine g c =
    let s = c.args.self.now in
    (lapsed_gains s.opening (history_of s.desk.now) s.desk.now.doubt (event_time (history_of s.desk.now) c.args.now) c.lapse.result (history_of c.lapse.new.self) c.lapse.new.self.doubt s.since c.lapse.ensures.ends).mine

pub returns-clause-memory : goal.returns-clause-memory
returns-clause-memory g c =
    let s = c.args.self.now in
    lapsed_memory (history_of s.desk.now) s.desk.now.doubt (event_time (history_of s.desk.now) c.args.now) c.lapse.result (history_of c.lapse.new.self) c.lapse.new.self.doubt c.lapse.ensures.ends
