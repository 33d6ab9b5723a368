-- The sibling is a node of the array, and the path goes on from the node above.
use Rattle.std.proofs.Common.{◌≡◌, ℕ, suc, List, [], ◌+◌, ◌-◌, ◌*◌, ◌/◌, ◌^◌, ◌<◌, ◌≤◌, ◌++◌, get_or, sym, ◌∙◌, ap, arith, subst, append_assoc, append-nil}
use Rattle.std.proofs.Math.Pow.{pow_mono}
use Rattle.lms_tree.specs.Nodes.{path, sibling}
use Rattle.lms_tree.proofs.PathLemmas.{IsOnLevel, on_level_above, sibling_on_level, path-next, path-done}
use Rattle.lms_tree.proofs.path.write_path.Goals as goal

-- the range of a sibling in the whole array
sibling_in : (h level r : ℕ) → level < h → IsOnLevel (h - level) r
    → (1 ≤ sibling r) × (sibling r < 2 * 2 ^ h) × IsOnLevel (h - (level + 1)) (r / 2)
sibling_in h level r lt on =
    let left : h - level ≡ suc (h - (level + 1)) = omega arith in
    let here = subst (λ (n : ℕ). IsOnLevel n r) left on in
    let range = sibling_on_level (h - (level + 1)) r here in
    let wide : 2 ^ suc (h - (level + 1)) ≤ 2 ^ h = pow_mono (omega arith) in
    (range.0, omega (arith, range.1, wide), on_level_above (h - (level + 1)) r here)

pub bounds-nodes-sibling : goal.bounds-nodes-sibling
bounds-nodes-sibling g c =
    let range = sibling_in g.row.H c.loop-level._level c.loop-level.r c.loop-level-test.true c.loop-level.invariant.level in
    omega (arith, c.sibling.ensures, range.1, c.requires.count)

pub loop-level-preserved : goal.loop-level-preserved
loop-level-preserved g c =
    let range = sibling_in g.row.H c.loop-level._level c.loop-level.r c.loop-level-test.true c.loop-level.invariant.level in
    record {
      level = range.2;
      written = λ keys id nodes.
          let rest = path keys id g.row.H (g.row.H - (c.loop-level._level + 1)) (c.loop-level.r / 2) in
          let is = ap (λ (i : ℕ). get_or c.args.nodes.now i []) c.sibling.ensures ∙ nodes.each (sibling c.loop-level.r) range.0 range.1 in
          ap (λ (l : List ℕ). l ++ rest) c.in_ok-append.ensures.ok
          ∙ append_assoc c.loop-level.out (get_or c.args.nodes.now c.sibling.result []) rest
          ∙ ap (λ (l : List ℕ). c.loop-level.out ++ l) (ap (λ (l : List ℕ). l ++ rest) is
          ∙ sym (path-next keys id g.row.H g.row.H c.loop-level._level c.loop-level.r c.loop-level-test.true))
          ∙ c.loop-level.invariant.written keys id nodes;
    }

pub returns : goal.returns
returns g c = λ keys id nodes.
    sym (append-nil c.loop-level.out)
    ∙ ap (λ (l : List ℕ). c.loop-level.out ++ l) (sym (path-done keys id g.row.H g.row.H c.loop-level._level c.loop-level.r c.loop-level-test.false))
    ∙ c.loop-level.invariant.written keys id nodes
