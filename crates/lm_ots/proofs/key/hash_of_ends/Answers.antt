-- The ends are taken in one behind the other.
use Rattle.std.proofs.Common.{◌≡◌, ℕ, ◌++◌, length, ap, ◌∙◌, arith}
use Rattle.sha2.specs.Sha256.{sha256}
use Rattle.lm_ots.specs.Chains.{prefix, joined, ends_hash}
use Rattle.lm_ots.proofs.Parts.{held_none, held_more}
use Rattle.lm_ots.proofs.key.hash_of_ends.Goals as goal

pub loop-i-init : goal.loop-i-init
loop-i-init c = λ f settled. held_none _ _ _ c.opened-hasher.ensures

pub loop-i-preserved : goal.loop-i-preserved
loop-i-preserved c = λ f settled.
    held_more _ _ _ _ _ c.loop-i.i c.update.ensures (settled c.loop-i.i (omega arith)) (c.loop-i.invariant f settled)

pub returns : goal.returns
unfolding ends_hash
returns c = λ f settled.
    let all : c.loop-i.i ≡ length c.args.ends.now = omega arith in
    c.finalize.ensures _ (c.loop-i.invariant f settled)
    ∙ ap (λ (n : ℕ). sha256 (prefix c.args.id.now c.args.q 0x8080 ++ joined f n)) all
