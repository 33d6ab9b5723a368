use Rattle.sha_lanes.proofs.Lanes.{listed_is}
use Rattle.sha_lanes.proofs.blocks.side_by_side.Goals as goal

pub returns : goal.returns
returns c = record {
  first = listed_is 8 c.args.a.now c.told-a;
  second = listed_is 8 c.args.b.now c.told-b;
  third = listed_is 8 c.args.c.now c.told-c;
  fourth = listed_is 8 c.args.d.now c.told-d;
}
