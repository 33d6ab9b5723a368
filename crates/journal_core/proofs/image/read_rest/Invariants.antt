use Rattle.std.proofs.Common.{◌≡◌, ◌-◌, ℕ, List, length, take, Some}
use Rattle.cmp_ports.specs.Disk.{Among, LeavesOnly}
use Rattle.journal_core.proofs.image.read_rest.Given as goal

-- the image is the content as far as it goes, and the disk is as it was
abbrev pub invariant-pieces : goal.invariant-pieces
invariant-pieces g l = record {
  so_far : (f : List ℕ) → g.D.Disk.content l.fn.disk ≡ Some f → l.image.items ≡ take (length l.image.items) f;
  same : g.D.Disk.content l.disk ≡ g.D.Disk.content l.fn.disk;
  crash : Among (g.D.Disk.images l.fn.disk) (g.D.Disk.images l.disk);
  moments : LeavesOnly g.D.Disk.moment g.D.Disk.left_since l.fn.disk l.disk (g.D.Disk.images l.fn.disk);
  loan : g.D.Disk.loan l.disk ≡ g.D.Disk.loan l.fn.disk;
  faults : g.D.Disk.faults l.disk ≡ g.D.Disk.faults l.fn.disk;
}

abbrev pub decreases-pieces : goal.decreases-pieces
decreases-pieces g l = l.size - length l.image.items
