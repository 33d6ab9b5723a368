-- A payload that is the next leaf's joins the leaves, and another stops them.
use Rattle.std.proofs.Common.{◌≡◌, ℕ, suc, List, length, not, sym, ◌∙◌, ap, subst, arith}
use Rattle.leaf_book.specs.Mounted.{IsAt}
use Rattle.leaf_book.proofs.MountLemmas.{joined, read_more, read_other}
use Rattle.leaf_book.proofs.reading.read_leaves.Goals as goal

pub returns-in_default : goal.returns-in_default
returns-in_default c =
    let given = c.loop-payload.given in
    let count : c.len-leaf.result ≡ length given.items = omega (arith, given.ok.0, c.len-leaf.ensures) in
    read_other c.args.payloads.now c.loop-payload.payload-index c.len-leaf.result given.items c.payload-item.result c.loop-payload.invariant c.loop-payload-test.true c.payload-item.is count
    (λ here. c.in_default.ensures (subst (λ (p : List ℕ). IsAt (suc c.len-leaf.result) p) (sym c.as_slice.ensures) here))

pub loop-payload-preserved : goal.loop-payload-preserved
loop-payload-preserved c =
    let given = c.loop-payload.given in
    let next = c.in-Some.ensures in
    let count : c.len-leaf.result ≡ length given.items = omega (arith, given.ok.0, c.len-leaf.ensures) in
    read_more c.args.payloads.now c.loop-payload.payload-index c.len-leaf.result given.items c.push.new.self.items c.in-Some.digest c.payload-item.result c.loop-payload.invariant c.loop-payload-test.true c.payload-item.is count
    (next.0, next.1, sym c.as_slice.ensures ∙ next.2)
    (joined c.push.result c.push.new.self.items given.items c.in-Some.digest c.push.ensures.items (c.is_err.ensures.negation ∙ ap not c.if-is_err.false))
