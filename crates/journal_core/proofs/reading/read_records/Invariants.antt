use Rattle.std.proofs.Common.{◌≡◌, ◌<◌, ◌++◌, length}
use Rattle.journal_core.specs.Log.{log_of, AreSmall}
use Rattle.journal_core.proofs.reading.read_records.Given as goal

-- the image is the log of the payloads so far, and then the rest
abbrev pub invariant-records : goal.invariant-records
invariant-records l = record {
  small : AreSmall l.payloads.items;
  image : l.image ≡ log_of l.magic l.payloads.items ++ l.rest;
  at : l.at ≡ length (log_of l.magic l.payloads.items);
  some : 0 < length l.rest;
}

abbrev pub decreases-records : goal.decreases-records
decreases-records l = length l.rest
