-- The values are written one behind the other.
use Rattle.std.proofs.Common.{refl}
use Rattle.lm_ots.proofs.Parts.{written_none, written_more}
use Rattle.lm_ots.proofs.signature.append_values.Goals as goal

pub loop-i-init : goal.loop-i-init
loop-i-init c = written_none _ _

pub loop-i-preserved : goal.loop-i-preserved
loop-i-preserved c =
    written_more _ _ _ _ _ c.loop-i.i (c.in_ok-append.ensures.ok) refl c.loop-i.invariant
