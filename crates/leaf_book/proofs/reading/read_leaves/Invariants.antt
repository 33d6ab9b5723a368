-- The payloads so far are those of the leaves so far.
use Rattle.leaf_book.proofs.MountLemmas.{IsRead}
use Rattle.leaf_book.proofs.reading.read_leaves.Given as goal

abbrev pub invariant-loop-payload : goal.invariant-loop-payload
invariant-loop-payload l = IsRead l.payloads l.payload-index l.given.items
