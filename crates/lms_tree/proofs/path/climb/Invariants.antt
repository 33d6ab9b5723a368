-- What is left of the way leads to the root.
use Rattle.std.proofs.Common.{◌≡◌, ◌-◌, ◌*◌, drop}
use Rattle.lms_tree.specs.Nodes.{climb}
use Rattle.lms_tree.proofs.path.climb.Given as goal

abbrev pub invariant-loop-level : goal.invariant-loop-level
invariant-loop-level g l =
    climb l.id (g.row.H - l.level) l.r l.top (drop (32 * l.level) l.siblings) ≡ climb l.id g.row.H l.fn.leaf l.fn.value l.siblings
