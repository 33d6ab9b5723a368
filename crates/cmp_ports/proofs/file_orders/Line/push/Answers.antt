-- An octet more is kept, or dropped where the line is past all orders.
use Rattle.std.proofs.Common.{arith, length-append}
use Rattle.std.proofs.lemmas.List.{length-set}
use Rattle.cmp_ports.proofs.OrderLemmas.{line_kept, line_full}
use Rattle.cmp_ports.proofs.file_orders.Line.push.Goals.{then-self-lt-KEPT, else-self-lt-KEPT}
use Rattle.cmp_ports.proofs.file_orders.Line.push.Goals as goal

pub returns-clause-line : goal.returns-clause-line
returns-clause-line c line is = elim c.if-self-lt-KEPT.branch [
  | then-self-lt-KEPT w ↦ rw w.self-is record {
    room = grind (arith, is.room, length-set);
    size = grind (arith, is.size, length-append);
    kept = line_kept _ line _ c.args.octet is.room is.size w.if-self-lt-KEPT.true is.kept;
  }
  | else-self-lt-KEPT w ↦ rw w.self-is record {
    room = is.room;
    size = grind (arith, is.size, length-append);
    kept = line_full _ line _ c.args.octet is.size w.if-self-lt-KEPT.false is.kept;
  }
]
