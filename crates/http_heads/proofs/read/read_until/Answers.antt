-- A piece more is read.
use Rattle.std.proofs.Common.{◌∙◌}
use Rattle.std.proofs.KnownBytes.{Keeps-trans}
use Rattle.http_heads.proofs.read.read_until.Goals as goal

pub loop-link-preserved : goal.loop-link-preserved
loop-link-preserved g c = record {
  known = Keeps-trans _ _ _ c.loop-link.invariant.known c.in_ok-read_more.ensures.known;
  input = Keeps-trans _ _ _ c.loop-link.invariant.input c.in_ok-read_more.ensures.input;
  written = Keeps-trans _ _ _ c.loop-link.invariant.written c.in_ok-read_more.ensures.written;
  faults = c.in_ok-read_more.ensures.kept ∙ c.loop-link.invariant.faults;
}
