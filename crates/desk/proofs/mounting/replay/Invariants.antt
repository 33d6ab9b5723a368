-- The payloads so far spell a history whose changes are each allowed after those before them, and its log ends here.
use Rattle.desk.proofs.MountLemmas.{IsReplayed}
use Rattle.desk.proofs.mounting.replay.Given as goal

abbrev pub invariant-loop-payload : goal.invariant-loop-payload
invariant-loop-payload l = IsReplayed l.payloads l.payload-index l.at l.history.items
