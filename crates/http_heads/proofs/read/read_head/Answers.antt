-- A piece more is read.
use Rattle.std.proofs.Common.{◌∙◌}
use Rattle.std.proofs.KnownBytes.{Keeps-trans}
use Rattle.http_heads.proofs.read.read_head.Goals as goal

pub loop-asked-preserved : goal.loop-asked-preserved
loop-asked-preserved g c = record {
  known = Keeps-trans _ _ _ c.loop-asked.invariant.known c.in_ok-read_more.ensures.known;
  input = Keeps-trans _ _ _ c.loop-asked.invariant.input c.in_ok-read_more.ensures.input;
  written = Keeps-trans _ _ _ c.loop-asked.invariant.written c.in_ok-read_more.ensures.written;
  faults = c.in_ok-read_more.ensures.kept ∙ c.loop-asked.invariant.faults;
}
