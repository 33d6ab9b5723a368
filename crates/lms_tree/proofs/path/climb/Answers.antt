-- A turn of the loop is one level up.
use Rattle.std.proofs.Common.{◌≡◌, ℕ, List, ◌+◌, ◌-◌, ◌*◌, ◌/◌, take, drop, sym, ◌∙◌, ap, ap₂, arith}
use Rattle.std.proofs.lemmas.List.{drop-drop}
use Rattle.lms_tree.specs.Nodes.{climb, parent}
use Rattle.lms_tree.proofs.PathLemmas.{climb-next, climb-done}
use Rattle.lms_tree.proofs.path.climb.Goals as goal

pub loop-level-preserved : goal.loop-level-preserved
loop-level-preserved g c =
    let here : List ℕ = drop (32 * c.loop-level.level) c.args.siblings.now in
    let size : 32 * c.loop-level.level + 32 - 32 * c.loop-level.level ≡ 32 = omega arith in
    let part = c.copy_from_slice.ensures.after ∙ ap (λ (n : ℕ). take n here) size in
    let place : 32 * (c.loop-level.level + 1) ≡ 32 * c.loop-level.level + 32 = omega arith in
    let rest = ap (λ (n : ℕ). drop n c.args.siblings.now) place ∙ sym (drop-drop 32 (32 * c.loop-level.level) c.args.siblings.now) in
    ap₂ (λ (p s : List ℕ). climb c.args.id.now (g.row.H - (c.loop-level.level + 1)) (c.loop-level.r / 2) p s)
    (c.parent_of-top.ensures ∙ ap (parent c.args.id.now c.loop-level.r c.loop-level.top) part) rest
    ∙ sym (climb-next c.args.id.now g.row.H c.loop-level.level c.loop-level.r c.loop-level.top here c.loop-level-test.true)
    ∙ c.loop-level.invariant

pub returns : goal.returns
returns g c =
    sym (climb-done c.args.id.now g.row.H c.loop-level.level c.loop-level.r c.loop-level.top
    (drop (32 * c.loop-level.level) c.args.siblings.now) c.loop-level-test.false)
    ∙ c.loop-level.invariant
