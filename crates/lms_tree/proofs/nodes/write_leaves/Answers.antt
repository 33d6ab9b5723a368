-- Four leaves more are written, up to the last.
use Rattle.std.proofs.Common.{◌≡◌, ℕ, List, ◌+◌, ◌*◌, ◌^◌, subst, sym, ◌∙◌, ap, arith}
use Rattle.lm_ots.specs.Chains.{ots_key}
use Rattle.lms_tree.specs.Nodes.{AreNodes, node}
use Rattle.lms_tree.proofs.NodeLemmas.{are_none, whole_groups}
use Rattle.lms_tree.proofs.nodes.write_leaves.Goals as goal

pub loop-g-init : goal.loop-g-init
loop-g-init g c = are_none _ _ _ _ _ _ c.requires (omega arith)

pub loop-g-preserved : goal.loop-g-preserved
loop-g-preserved g c =
    let keys : ℕ → List ℕ = ots_key (record { w = g.row.W; p = g.row.P; ls = g.row.LS }) c.args.key.now.seed c.args.key.now.id in
    let id = c.args.key.now.id in
    let h = g.row.H in
    let i = c.loop-g.g in
    let place : c.leaves.result + 4 * i ≡ 2 ^ h + 4 * i = omega (arith, c.leaves.ensures.value) in
    let before = subst (λ (n : ℕ). AreNodes keys id h (2 ^ h) n c.loop-g.nodes) (sym place) c.loop-g.invariant in
    let after = c.write_four.ensures keys id h (2 ^ h) before
    (λ k low. c.leaves_at-four.ensures k low ∙ ap (λ (n : ℕ). node keys id h (n + k)) (sym place)) in
    let next : c.leaves.result + 4 * i + 4 ≡ 2 ^ h + 4 * (i + 1) = omega (arith, c.leaves.ensures.value) in
    subst (λ (n : ℕ). AreNodes keys id h (2 ^ h) n c.write_four.new.nodes) next after

pub returns : goal.returns
returns g c =
    let keys : ℕ → List ℕ = ots_key (record { w = g.row.W; p = g.row.P; ls = g.row.LS }) c.args.key.now.seed c.args.key.now.id in
    let whole = whole_groups g.row.H c.args.tree.height in
    let all : 2 ^ g.row.H + 4 * c.loop-g.g ≡ 2 * 2 ^ g.row.H = omega (arith, whole, c.leaves-g-end.ensures.value) in
    subst (λ (n : ℕ). AreNodes keys c.args.key.now.id g.row.H (2 ^ g.row.H) n c.loop-g.nodes) all c.loop-g.invariant
