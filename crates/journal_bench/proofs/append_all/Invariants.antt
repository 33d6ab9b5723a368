use Rattle.std.proofs.Common.{◌≡◌, false}
use Rattle.journal_core.specs.Journal.{IsSound, is_doubtful}
use Rattle.journal_bench.proofs.append_all.Given as goal

-- the journal stands at rest on its disk
abbrev pub invariant-loop : goal.invariant-loop
invariant-loop g l = record {
  sound : IsSound l.journal (g.D.Disk.images l.disk);
  clear : is_doubtful l.journal ≡ false;
}
