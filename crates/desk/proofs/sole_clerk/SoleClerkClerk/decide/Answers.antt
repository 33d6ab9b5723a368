use Rattle.desk.specs.History.{history_of}
use Rattle.desk.proofs.VerdictLemmas.{begins_self}
use Rattle.desk.proofs.ClerkLemmas.{left_gains, left_memory}
use Rattle.desk.proofs.sole_clerk.SoleClerkClerk.decide.Goals as goal

pub returns-clause-grown : goal.returns-clause-grown
returns-clause-grown g c =
    let s = c.args.self.now in
    (left_gains s.opening c.args.checked.now c.args.now c.args.words.now (history_of s.desk.now) s.desk.now.doubt c.decide.result (history_of c.decide.new.self) c.decide.new.self.doubt s.since c.decide.ensures.ends).begun

pub returns-clause-verdict : goal.returns-clause-verdict
returns-clause-verdict g c = λ l looked first carries told. c.decide.ensures.verdict l looked (history_of c.args.self.now.desk.now) first (begins_self (history_of c.args.self.now.desk.now)) carries told

pub returns-clause-ends : goal.returns-clause-ends
returns-clause-ends g c =
    let d = c.args.self.now.desk.now in
    record { before = history_of d; begun = begins_self (history_of d); doubt = d.doubt; left = c.decide.new.self.doubt; decided = c.decide.ensures.ends; lawful = c.decide.new.self.lawful }

pub returns-clause-mine : goal.returns-clause-mine
returns-clause-mine g c =
    let s = c.args.self.now in
    (left_gains s.opening c.args.checked.now c.args.now c.args.words.now (history_of s.desk.now) s.desk.now.doubt c.decide.result (history_of c.decide.new.self) c.decide.new.self.doubt s.since c.decide.ensures.ends).mine

pub returns-clause-alone : goal.returns-clause-alone
returns-clause-alone g c = λ _. c.decide.ensures.ends

pub returns-clause-memory : goal.returns-clause-memory
returns-clause-memory g c =
    let s = c.args.self.now in
    left_memory c.args.checked.now c.args.now c.args.words.now (history_of s.desk.now) s.desk.now.doubt c.decide.result (history_of c.decide.new.self) c.decide.new.self.doubt c.decide.ensures.ends
