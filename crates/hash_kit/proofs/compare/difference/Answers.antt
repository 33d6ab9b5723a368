-- octet by octet, and then of all 32
use Rattle.std.proofs.Common.{arith}
use Rattle.std.proofs.lemmas.Grind.{common_steps}
use Rattle.hash_kit.proofs.CompareLemmas.{step_same, step_none, all_same}
use Rattle.hash_kit.proofs.compare.difference.Goals as goal

pub loop-i-preserved : goal.loop-i-preserved
loop-i-preserved c = record {
  same = step_same c.args.mac.now c.args.octets.now c.loop-i.i c.loop-i.all c.loop-i.invariant.same;
  none = step_none c.args.mac.now c.args.octets.now c.loop-i.i c.loop-i.all c.loop-i.invariant.none;
}

pub returns : goal.returns
returns c = all_same c.args.mac.now c.args.octets.now c.loop-i.i c.loop-i.all (grind (arith, common_steps)) c.requires (grind (arith, common_steps)) c.loop-i.invariant.same c.loop-i.invariant.none
