-- by how long a request is
use Rattle.std.proofs.Common.{◌≡◌, ℕ, ◌+◌, ◌*◌, ◌≤◌, List, length, sym, ap, subst, arith}
use Rattle.std.proofs.lemmas.Result.{IfOk-weaker}
use Rattle.req_forms.specs.Written.{around_octets}
use Rattle.req_forms.specs.declared.wish.Proof.TheVariants.{Signature}
use Rattle.req_forms.proofs.SizeLemmas.{around_size}
use Rattle.device_plan.specs.Plans.{list_limit}
use Rattle.device_plan.proofs.bodies.request_inside.Goals as goal

around_short : (text proof copy : List ℕ) → copy ≡ proof → length text ≤ 2 * list_limit + 256 → length proof ≤ list_limit → length (around_octets text (Signature copy)) ≤ 3 * list_limit + 512
around_short text proof copy same short shorter =
    let sized : length (around_octets text (Signature copy)) ≤ length text + length copy + 48 = around_size text (Signature copy) in
    omega (arith, sized, ap (λ (l : List ℕ). length l) same, short, shorter)

pub write_around-requires : goal.write_around-requires
write_around-requires c = omega (arith, around_short c.args.text.now c.args.proof.now c.in_ok-copy_of.field-0 c.in_ok-copy_of.ensures c.requires.text c.requires.proof)

pub returns-in_ok-copy_of-clause-short : goal.returns-in_ok-copy_of-clause-short
returns-in_ok-copy_of-clause-short c =
    IfOk-weaker c.write_around.result _ _
    (λ octets is. subst (λ (l : List ℕ). length l ≤ 3 * list_limit + 512) (sym is) (around_short c.args.text.now c.args.proof.now c.in_ok-copy_of.field-0 c.in_ok-copy_of.ensures c.requires.text c.requires.proof))
    c.write_around.ensures.written
