use Rattle.deal_changes.specs.Reading.{credentials_at}
use Rattle.deal_changes.proofs.Loop.{goes_on, ends, is_done}
use Rattle.deal_changes.proofs.reading.credentials_of.Goals as goal

-- a credential that isn't read ends the reading
pub returns-in-Err : goal.returns-in-Err
returns-in-Err c = ends c.in-Err.fault c.loop.list.items c.args.count c.loop.counter c.loop.rest.now (credentials_at c.args.count c.args.bytes.now) c.loop-test.true c.in-Err.ensures c.loop.invariant

pub loop-preserved : goal.loop-preserved
loop-preserved c = rw c.in_ok-push.ensures.items (goes_on c.loop.list.items c.args.count c.loop.counter c.loop.rest.now c.in-Ok.read.0 c.in-Ok.read.1.now (credentials_at c.args.count c.args.bytes.now) c.loop-test.true c.in-Ok.ensures c.loop.invariant)

pub returns : goal.returns
returns c = is_done c.loop.list.items c.args.count c.loop.counter c.loop.rest.now (credentials_at c.args.count c.args.bytes.now) c.loop-test.false c.loop.invariant
